use Rattle.std.proofs.Common.{◌≡◌, ℕ, ◌<◌, drop, get_or}
use Rattle.c_tables.proofs.items.fill_items.Given as goal

abbrev pub invariant-loop-index : goal.invariant-loop-index
invariant-loop-index g l = record {
  told : (item : _) (row : _) (k : ℕ) → k < l.index → g.R.Row.tells (get_or (g.S.Items.items l.table) k item) (get_or l.rows k row);
  others : drop l.index l.rows ≡ drop l.index l.initial.rows;
}
