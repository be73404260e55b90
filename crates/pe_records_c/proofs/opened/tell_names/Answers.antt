use Rattle.std.proofs.Common.{ℕ, List, ap, subst, ◌∙◌}
use Rattle.std.specs.List.{zip}
use Rattle.pe_layout.specs.Image.{image_of_file}
use Rattle.pe_tables.specs.Exports.{exports_of}
use Rattle.pe_tables.specs.Key.{Target}
use Rattle.pe_records_c.specs.ExportRows.{export_text, export_by_name}
use Rattle.pe_records_c.specs.Rows.{TellsTable}
use Rattle.pe_records_c.proofs.opened.tell_names.Goals as goal

pub returns-clause-table : goal.returns-clause-table
returns-clause-table c =
    subst (λ (t : List ((List ℕ × Target) × ℕ)). TellsTable export_text export_by_name t c.args.rows.now c.put_names.new.rows c.put_names.new.count c.put_names.result)
    (ap (λ n. zip n c.name_ordinals.result.now) c.names.ensures ∙ ap (zip (exports_of (image_of_file 0 c.args.image.now)).names) c.name_ordinals.ensures) c.put_names.ensures.table
