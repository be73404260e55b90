-- One more item.
use Rattle.std.proofs.Common.{◌≡◌, ◌<◌, Some, length, sym, rules}
use Rattle.std.specs.Prelude.{slice_get}
use Rattle.pe_records_c.proofs.Rows.{rest_step}
use Rattle.c_tables.proofs.Steps.{told_step}
use Rattle.c_tables.proofs.items.fill_items.Goals as goal

pub loop-index-preserved : goal.loop-index-preserved
loop-index-preserved g c =
    let i = c.loop-index.invariant in
    let table = g.S.Items.items c.args.table.now in
    let under : c.loop-index.index < length c.loop-index.rows = search rules in
    let is : slice_get table c.loop-index.index ≡ Some c.unwrap.result = sym (rw c.unwrap.ensures at c.item.ensures) in
    record {
      told = told_step g.R.Row.tells table c.loop-index.rows c.loop-index.index _ c.of.result under is c.of.ensures i.told;
      others = rest_step c.loop-index.rows c.args.rows.now c.loop-index.index c.of.result i.others;
    }
