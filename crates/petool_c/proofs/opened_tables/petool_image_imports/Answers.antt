use Rattle.std.proofs.Common.{ℕ, List, Option, subst}
use Rattle.pe_records_c.specs.ImportRows.{import_text, import_row}
use Rattle.pe_records_c.specs.Images.{opened_imports}
use Rattle.pe_records_c.specs.Rows.{TellsTable}
use Rattle.petool_c.proofs.Taken.{file_taken}
use Rattle.petool_c.proofs.opened_tables.petool_image_imports.Goals as goal

pub returns-in-Some-clause-table : goal.returns-in-Some-clause-table
returns-in-Some-clause-table c = λ _. subst (λ (f : Option (List ℕ)). TellsTable import_text import_row (opened_imports f) c.args.rows.now c.tell_imports-answer.new.rows c.tell_imports-answer.new.count c.tell_imports-answer.result)
    (file_taken _ _ _ _ _ c.in-Some.ensures.image c.replace.ensures.value c.deref.ensures c.deref-in-Some.ensures) c.tell_imports-answer.ensures.table
