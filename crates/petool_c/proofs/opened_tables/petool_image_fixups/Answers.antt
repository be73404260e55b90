use Rattle.std.proofs.Common.{ℕ, List, Option, subst}
use Rattle.pe_records_c.specs.FixupRows.{fixup_row}
use Rattle.pe_records_c.specs.Images.{opened_fixups}
use Rattle.pe_records_c.specs.Rows.{TellsTable}
use Rattle.petool_c.proofs.Taken.{file_taken}
use Rattle.petool_c.proofs.opened_tables.petool_image_fixups.Goals as goal

pub returns-in-Some-clause-table : goal.returns-in-Some-clause-table
returns-in-Some-clause-table c = λ _. subst (λ (f : Option (List ℕ)). TellsTable (λ row. row) fixup_row (opened_fixups f) c.args.rows.now c.tell_fixups-answer.new.rows c.tell_fixups-answer.new.count c.tell_fixups-answer.result)
    (file_taken _ _ _ _ _ c.in-Some.ensures.image c.replace.ensures.value c.deref.ensures c.deref-in-Some.ensures) c.tell_fixups-answer.ensures.table
