use Rattle.std.proofs.Common.{◌≡◌, ◌+◌, ◌*◌, ◌-◌}
use Rattle.pe_view.specs.View.{bytes_of}
use Rattle.pe_version.specs.Parts.{units_before_zero}
use Rattle.pe_version.proofs.block.units_before_zero.Given as goal

abbrev pub invariant-loop-index : goal.invariant-loop-index
invariant-loop-index l =
    units_before_zero (bytes_of l.view) l.at l.count ≡ l.index + units_before_zero (bytes_of l.view) (l.at + 2 * l.index) (l.count - l.index)
