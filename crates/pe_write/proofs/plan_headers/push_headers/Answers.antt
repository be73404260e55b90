use Rattle.std.proofs.Common.{◌++◌}
use Rattle.std.proofs.lemmas.Result.{on_ok_weaker}
use Rattle.std.specs.List.{flat_map}
use Rattle.pe_write.specs.PlanHeaders.{dos_numbers, coff_numbers, standard_numbers, base_of_data_numbers, image_numbers, reserve_numbers, optional_numbers, front_numbers, directory_numbers}
use Rattle.pe_write.proofs.Pushing.{both}
use Rattle.pe_write.proofs.plan_headers.push_headers.Goals as goal

pub returns-clause-bytes : goal.returns-clause-bytes
returns-clause-bytes g c =
    let plan = c.args.plan.now in
    let standard = standard_numbers plan ++ base_of_data_numbers plan.magic in
    let behind = both _ _ _ (image_numbers plan) (reserve_numbers plan.magic) c.in_ok-push_image_fields.ensures.bytes c.in_ok-push_reserves.ensures.bytes in
    let optional = both _ _ _ standard (image_numbers plan ++ reserve_numbers plan.magic) c.in_ok-push_standard_fields.ensures.bytes behind in
    let front = both _ _ _ (dos_numbers ++ coff_numbers plan) (optional_numbers plan) c.in_ok-push_coff_header.ensures.bytes optional in
    on_ok_weaker c.push_directories.result (both _ _ _ (front_numbers plan) (flat_map directory_numbers plan.directories) front) c.push_directories.ensures.bytes
