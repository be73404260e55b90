-- The rows are those of the image's table.
use Rattle.std.proofs.Common.{ℕ, List, ap, subst, Err, ◌∙◌}
use Rattle.std.specs.List.{zip}
use Rattle.pe_layout.specs.Image.{image_of_file}
use Rattle.pe_tables.specs.Exports.{exports_of}
use Rattle.pe_tables.specs.Key.{Target}
use Rattle.pe_records_c.specs.ExportRows.{export_text, export_by_name}
use Rattle.pe_records_c.specs.Rows.{TellsTable}
use Rattle.pe_records_c.proofs.Telling.{table_accepted, table_refused}
use Rattle.petool_c.proofs.export.petool_export_names.Goals as goal

pub returns-in-Ok : goal.returns-in-Ok
returns-in-Ok c =
    let names = ap (λ n. zip n c.name_ordinals.result.now) (c.names.ensures ∙ ap (λ e. e.names) c.in-Ok.ensures.exact.1) in
    let all = names ∙ ap (zip (exports_of (image_of_file 0 c.args.file.now)).names) (c.name_ordinals.ensures ∙ ap (λ e. e.name_ordinals) c.in-Ok.ensures.exact.1) in
    table_accepted _ _ export_text export_by_name _ _ _ _ _ _ _ c.in-Ok.ensures.exact.0
    (subst (λ (t : List ((List ℕ × Target) × ℕ)). TellsTable export_text export_by_name t c.args.rows.now c.put_names.new.rows c.put_names.new.count c.put_names.result) all c.put_names.ensures.table)

pub returns-in-Err : goal.returns-in-Err
returns-in-Err c = table_refused _ _ _ _ _ _ _ _ _ _ c.in-Err.refusal c.in-Err.ensures.exact (λ e. c.in-Err.ensures.memory (ap Err e)) c.refuse_for.ensures
