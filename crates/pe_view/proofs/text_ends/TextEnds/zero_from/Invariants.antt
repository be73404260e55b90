use Rattle.std.proofs.Common.{◌-◌, ◌≤◌}
use Rattle.pe_view.specs.View.{bytes_of}
use Rattle.pe_view.specs.TextEnds.{HasNoZero}
use Rattle.pe_view.proofs.text_ends.TextEnds.zero_from.Given as goal

abbrev pub invariant-loop-zero : goal.invariant-loop-zero
invariant-loop-zero g l = record {
  from : l.offset ≤ l.zero;
  none : HasNoZero (bytes_of l.view) l.offset l.zero;
}

abbrev pub decreases-loop-zero : goal.decreases-loop-zero
decreases-loop-zero g l = l.end - l.zero
