-- The rows after the first are those of the section's relocations.
use Rattle.std.proofs.Common.{◌≡◌, ℕ, ◌-◌, length, arith, min, drop, subst}
use borrow.Rule.Slice.PartMut.{mid_of}
use Rattle.coff_read.specs.FileView.{relocations_view}
use Rattle.coff_read.specs.declared.relocation.Relocation.{Relocation}
use Rattle.pe_records_c.specs.ObjectRows.{relocation_row, FillsRelocations}
use Rattle.pe_records_c.specs.declared.object.ObjectRelocationRow.{ObjectRelocationRow}
use Rattle.pe_records_c.proofs.Parts.{part_filled}
use Rattle.pe_records_c.proofs.object.put_more_relocations.Goals as goal

pub returns : goal.returns
returns c = λ first old len f.
    let rows = c.args.rows.now in
    let more = relocations_view c.args.relocations.now in
    let part = c.put_relocations.new.rows in
    let from : ℕ = c.min-start.result in
    let start : from ≡ min (length first - c.args.skipped) (length rows) = omega arith in
    let skipped : c.saturating_sub-2.result ≡ c.args.skipped - length first = omega arith in
    part_filled (λ (relocation : Relocation) (row : ObjectRelocationRow). row ≡ relocation_row relocation) first more old rows part c.args.skipped from start f
    (subst (λ (n : ℕ). FillsRelocations (drop n more) (mid_of from (length rows - from) rows) part) skipped c.put_relocations.ensures)
