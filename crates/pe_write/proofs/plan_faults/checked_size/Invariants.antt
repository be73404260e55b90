use Rattle.std.proofs.Common.{◌≡◌, ◌≤◌, ◌^◌, drop}
use Rattle.pe_write.specs.PlanFile.{file_end}
use Rattle.pe_write.proofs.plan_faults.checked_size.Given as goal

abbrev pub invariant-loop-section : goal.invariant-loop-section
invariant-loop-section l = record {
  held : l.end ≤ 2 ^ 32;
  size : file_end l.alignment l.end (drop l.section-index l.sections) ≡ file_end l.alignment l.headers l.sections;
}
