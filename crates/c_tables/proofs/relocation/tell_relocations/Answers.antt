-- The rows are those of the relocations of the section, if there is one.
use Rattle.std.proofs.Common.{Option, subst, refl}
use Rattle.coff_read.specs.FileView.{relocations_view}
use Rattle.coff_read.specs.Records.{Section}
use Rattle.pe_records_c.specs.ObjectRows.{relocation_row, TellsRelocations}
use Rattle.pe_records_c.proofs.Rows.{table_of}
use Rattle.c_tables.proofs.relocation.tell_relocations.Goals as goal

pub returns-in-Some : goal.returns-in-Some
returns-in-Some c =
    subst (λ (s : Option Section). TellsRelocations s c.args.rows.now c.put_relocations.new.rows c.args.count.now c.len.result c.table_status.result) c.in-Some.ensures
    (table_of (λ r. r) relocation_row (relocations_view c.in-Some.section.relocations) _ _ _ _ c.put_relocations.ensures c.len.ensures.value c.table_status.ensures)

pub returns-in-None : goal.returns-in-None
returns-in-None c =
    subst (λ (s : Option Section). TellsRelocations s c.args.rows.now c.args.rows.now c.args.count.now c.args.count.now 3) c.in-None.ensures (refl, refl, refl)
