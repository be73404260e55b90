use Rattle.std.proofs.Common.{ℕ, List, Option, subst}
use Rattle.pe_records_c.specs.ExportRows.{export_text, export_by_name}
use Rattle.pe_records_c.specs.Images.{opened_names}
use Rattle.pe_records_c.specs.Rows.{TellsTable}
use Rattle.petool_c.proofs.Taken.{file_taken}
use Rattle.petool_c.proofs.opened_tables.petool_image_export_names.Goals as goal

pub returns-in-Some-clause-table : goal.returns-in-Some-clause-table
returns-in-Some-clause-table c = λ _. subst (λ (f : Option (List ℕ)). TellsTable export_text export_by_name (opened_names f) c.args.rows.now c.tell_names-answer.new.rows c.tell_names-answer.new.count c.tell_names-answer.result)
    (file_taken _ _ _ _ _ c.in-Some.ensures.image c.replace.ensures.value c.deref.ensures c.deref-in-Some.ensures) c.tell_names-answer.ensures.table
