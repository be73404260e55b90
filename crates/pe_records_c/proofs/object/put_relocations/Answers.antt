-- One more relocation.
use Rattle.std.proofs.Common.{◌≡◌, ◌∙◌, ◌+◌, ◌<◌, Some, drop, length, sym, rules}
use Rattle.std.specs.Prelude.{slice_get}
use Rattle.coff_read.specs.FileView.{relocations_view}
use Rattle.pe_records_c.specs.ObjectRows.{relocation_row}
use Rattle.pe_records_c.proofs.Left.{got_left}
use Rattle.pe_records_c.proofs.Rows.{told_step, rest_step}
use Rattle.pe_records_c.proofs.object.put_relocations.Goals as goal

pub loop-index-preserved : goal.loop-index-preserved
loop-index-preserved c =
    let i = c.loop-index.invariant in
    let table = relocations_view c.args.relocations.now in
    let under : c.loop-index.index < length c.loop-index.rows = search rules in
    let is : slice_get table (c.args.skipped + c.loop-index.index) ≡ Some c.unwrap.result = sym (rw c.unwrap.ensures at c.get.ensures) in
    record {
      told = told_step (λ r. r) relocation_row (drop c.args.skipped table) c.loop-index.rows c.loop-index.index _ c.of.result under (got_left table c.args.skipped c.loop-index.index ∙ is) c.of.ensures i.told;
      others = rest_step c.loop-index.rows c.args.rows.now c.loop-index.index c.of.result i.others;
    }
