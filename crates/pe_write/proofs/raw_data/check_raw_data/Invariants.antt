use Rattle.std.proofs.Common.{◌≡◌, drop, take, []}
use Rattle.pe_view.specs.Faults.{first_standing}
use Rattle.pe_write.specs.RebaseFaults.{ranges_tests}
use Rattle.pe_write.proofs.raw_data.check_raw_data.Given as goal

abbrev pub invariant-loop-index : goal.invariant-loop-index
invariant-loop-index l = first_standing (ranges_tests l.headers (take l.index l.headers.sections.items) l.index (drop l.index l.headers.sections.items)) ≡ first_standing (ranges_tests l.headers [] 0 l.headers.sections.items)
