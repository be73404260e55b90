use Rattle.std.proofs.Common.{◌≡◌, drop}
use Rattle.std.specs.Prelude.{max}
use Rattle.pe_trust.specs.Overlay.{sections_end}
use Rattle.pe_trust.proofs.overlay.sections_end.Given as goal

abbrev pub invariant-loop-section : goal.invariant-loop-section
invariant-loop-section l = max l.end (sections_end (drop l.section-index l.sections)) ≡ max l.least (sections_end l.sections)
