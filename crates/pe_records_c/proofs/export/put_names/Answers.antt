use Rattle.std.proofs.Common.{ap, sym, length, ◌∙◌}
use Rattle.std.proofs.lemmas.Slice.Zip.{length-zip}
use Rattle.std.specs.List.{zip}
use Rattle.std.specs.Prelude.{nat_le, if◌then◌else◌}
use Rattle.pe_tables.specs.NameIndex.{export_view}
use Rattle.pe_records_c.specs.ExportRows.{export_text, export_by_name}
use Rattle.pe_records_c.proofs.Names.{beside_told}
use Rattle.pe_records_c.proofs.export.put_names.Goals as goal

pub returns : goal.returns
returns c =
    let counted = c.min.ensures ∙ sym (length-zip c.args.names.now c.args.ordinals.now) in
    let answered = c.table_status.ensures ∙ ap (λ n. if nat_le n (length c.fill_names.new.rows) then 0 else 4) counted
    ∙ ap (λ n. if nat_le (length (zip c.args.names.now c.args.ordinals.now)) n then 0 else 4) c.fill_names.ensures.len in
    record { table = beside_told export_text export_view export_by_name _ _ _ _ _ _ c.fill_names.ensures counted answered }
