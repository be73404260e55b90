use Rattle.std.proofs.Common.{◌≡◌, ◌≤◌, drop}
use Rattle.pe_view.specs.Faults.{first_standing}
use Rattle.pe_set.specs.Numbered.{numbered}
use Rattle.pe_set.specs.SetFaults.{name_tests}
use Rattle.pe_set.specs.SetView.{entries_of}
use Rattle.pe_set.proofs.names.check_names.Given as goal

abbrev pub invariant-loop-index : goal.invariant-loop-index
invariant-loop-index l = record {
  few : l.index ≤ 256;
  rest : first_standing (numbered (name_tests (entries_of l.set)) l.index (entries_of (drop l.index l.set))) ≡ first_standing (numbered (name_tests (entries_of l.set)) 0 (entries_of l.set));
}
