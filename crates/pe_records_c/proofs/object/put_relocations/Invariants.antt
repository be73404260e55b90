use Rattle.std.proofs.Common.{◌≡◌, ℕ, ◌<◌, drop, get_or}
use Rattle.coff_read.specs.FileView.{relocations_view}
use Rattle.coff_read.specs.declared.relocation.Relocation.{Relocation}
use Rattle.pe_records_c.specs.ObjectRows.{relocation_row}
use Rattle.pe_records_c.specs.declared.object.ObjectRelocationRow.{ObjectRelocationRow}
use Rattle.pe_records_c.proofs.object.put_relocations.Given as goal

abbrev pub invariant-loop-index : goal.invariant-loop-index
invariant-loop-index l = record {
  told : (relocation : Relocation) (row : ObjectRelocationRow) (k : ℕ) → k < l.index → get_or l.rows k row ≡ relocation_row (get_or (drop l.skipped (relocations_view l.relocations)) k relocation);
  others : drop l.index l.rows ≡ drop l.index l.initial.rows;
}
