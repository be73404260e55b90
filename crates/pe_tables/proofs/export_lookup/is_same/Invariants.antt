use Rattle.std.proofs.Common.{◌≡◌, ◌≤◌, ◌<◌, length, drop}
use Rattle.pe_tables.proofs.export_lookup.is_same.Given as goal

abbrev pub invariant-loop-part : goal.invariant-loop-part
invariant-loop-part l = record {
  bound : l.end ≤ length l.text;
  len : length l.text ≡ length l.other;
  some : 0 < l.part;
  same : drop l.end l.text ≡ drop l.end l.other;
}

abbrev pub decreases-loop-part : goal.decreases-loop-part
decreases-loop-part l = l.end
