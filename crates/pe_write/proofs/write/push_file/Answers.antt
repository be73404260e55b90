use Rattle.std.proofs.Common.{◌∙◌, ◌++◌, ℕ, List, sym, ap, subst}
use Rattle.std.specs.Prelude.{vec_len}
use Rattle.std.specs.List.{flat_map, AllByRecursion}
use Rattle.std.proofs.lemmas.Result.{on_ok_weaker}
use Rattle.pe_numbers.specs.Numbers.{numbers_bytes}
use Rattle.pe_write.specs.declared.plan.PlanSection.{PlanSection}
use Rattle.pe_write.specs.PlanFile.{headers_from, data_from}
use Rattle.pe_write.specs.PlanFits.{IsPlan, IsRow}
use Rattle.pe_write.specs.PlanHeaders.{header_numbers, section_bytes}
use Rattle.pe_write.proofs.PlanLaws.{alignment_some, headers_some, few, narrow, size_small, made}
use Rattle.pe_write.proofs.write.push_file.Goals as goal

pub push_headers-requires-clause-few : goal.push_headers-requires-clause-few
push_headers-requires-clause-few g c = few c.args.plan.now c.requires.none

pub push_headers-requires-clause-narrow : goal.push_headers-requires-clause-narrow
push_headers-requires-clause-narrow g c = narrow c.args.plan.now c.requires.none

pub push_table-requires-clause-some : goal.push_table-requires-clause-some
push_table-requires-clause-some g c = alignment_some c.args.plan.now c.requires.none

pub push_table-requires-clause-behind : goal.push_table-requires-clause-behind
push_table-requires-clause-behind g c = headers_some c.args.plan.now c.requires.none

pub push_table-requires-clause-held : goal.push_table-requires-clause-held
push_table-requires-clause-held g c = rw c.as_slice-sections.ensures.value (size_small c.args.plan.now c.requires.none)

pub push_data-requires-clause-some : goal.push_data-requires-clause-some
push_data-requires-clause-some g c = alignment_some c.args.plan.now c.requires.none

pub push_data-requires-clause-small : goal.push_data-requires-clause-small
push_data-requires-clause-small g c = rw (c.as_slice-sections.ensures.value, c.in_ok-resize.ensures.len) (size_small c.args.plan.now c.requires.none)

pub returns-clause-bytes : goal.returns-clause-bytes
returns-clause-bytes g c =
    let plan = c.args.plan.now in
    let sections = c.as_slice-sections.ensures.value in
    let front = c.in_ok-push_headers.ensures.bytes ∙ ap (λ (xs : List ℕ). xs ++ numbers_bytes (header_numbers plan)) c.requires.empty in
    let table = c.in_ok-push_table.ensures.bytes ∙ ap (λ (ss : List PlanSection). c.push_headers.new.bytes.items ++ flat_map section_bytes (headers_from plan.file_alignment plan.size_of_headers ss)) sections in
    let fits : IsPlan plan = record {
      numbers = c.in_ok-push_headers.ensures.fits;
      directories = c.in_ok-push_headers.ensures.directories;
      sections = subst (λ (ss : List PlanSection). AllByRecursion IsRow (headers_from plan.file_alignment plan.size_of_headers ss)) sections c.in_ok-push_table.ensures.fits;
    } in
    on_ok_weaker c.push_data.result
    (λ is. made plan c.requires.none fits _ _ _ _ _ _ (sym c.push_table.new.bytes.ok.0) front table c.in_ok-resize.ensures.items c.in_ok-resize.ensures.len
    (is ∙ ap (λ (ss : List PlanSection). c.resize.new.self.items ++ data_from plan.file_alignment (vec_len c.resize.new.self) ss) sections))
    c.push_data.ensures
