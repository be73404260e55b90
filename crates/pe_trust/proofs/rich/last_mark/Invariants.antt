use Rattle.std.proofs.Common.{◌≡◌, ◌≤◌}
use Rattle.pe_view.specs.View.{bytes_of}
use Rattle.pe_trust.specs.Rich.{last_mark}
use Rattle.pe_trust.proofs.rich.last_mark.Given as goal

abbrev pub invariant-loop-index : goal.invariant-loop-index
invariant-loop-index l = (last_mark (bytes_of l.file) l.key l.mark l.index ≡ last_mark (bytes_of l.file) l.key l.mark l.end) × (l.index ≤ l.end)

abbrev pub decreases-loop-index : goal.decreases-loop-index
decreases-loop-index l = l.index
