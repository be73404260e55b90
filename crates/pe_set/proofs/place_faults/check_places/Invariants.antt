use Rattle.std.proofs.Common.{◌≡◌, drop}
use Rattle.pe_view.specs.Faults.{first_standing}
use Rattle.pe_set.specs.Numbered.{numbered}
use Rattle.pe_set.specs.SetFaults.{placing_tests}
use Rattle.pe_set.specs.SetView.{modules_view}
use Rattle.pe_set.proofs.place_faults.check_places.Given as goal

abbrev pub invariant-loop-index : goal.invariant-loop-index
invariant-loop-index g l =
    first_standing (numbered (placing_tests (modules_view l.modules)) l.index (modules_view (drop l.index l.modules)))
    ≡ first_standing (numbered (placing_tests (modules_view l.modules)) 0 (modules_view l.modules))
