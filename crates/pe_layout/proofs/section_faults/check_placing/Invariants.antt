use Rattle.std.proofs.Common.{◌≡◌, drop}
use Rattle.pe_view.specs.Faults.{first_standing}
use Rattle.pe_layout.specs.HeaderSource.{headers_in}
use Rattle.pe_layout.specs.SectionFaults.{placing_tests, sections_tests}
use Rattle.pe_layout.proofs.section_faults.check_placing.Given as goal

abbrev pub invariant-loop-index : goal.invariant-loop-index
invariant-loop-index l =
    first_standing (sections_tests l.image (headers_in l.headers) l.size l.before l.index (drop l.index (headers_in l.headers).sections.items))
    ≡ first_standing (placing_tests l.image (headers_in l.headers) l.size)
