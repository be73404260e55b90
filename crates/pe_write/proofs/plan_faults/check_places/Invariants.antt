use Rattle.std.proofs.Common.{◌≡◌, ◌<◌, ◌≤◌, ◌^◌, drop}
use Rattle.pe_view.specs.Faults.{first_standing}
use Rattle.pe_write.specs.PlanFaults.{places_tests}
use Rattle.pe_write.specs.PlanFile.{file_end, headers_from}
use Rattle.pe_write.proofs.plan_faults.check_places.Given as goal

abbrev pub invariant-loop-section : goal.invariant-loop-section
invariant-loop-section l = record {
  behind : 0 < l.end;
  held : file_end l.alignment l.end (drop l.section-index l.sections) ≤ 2 ^ 32;
  tests :
      first_standing (places_tests l.image l.headers l.before (headers_from l.alignment l.end (drop l.section-index l.sections)))
      ≡ first_standing (places_tests l.image l.headers 0 (headers_from l.alignment l.headers l.sections));
}
