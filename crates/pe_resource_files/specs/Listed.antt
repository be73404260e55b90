-- The list of an image's resources.
use Rattle.std.specs.Prelude.{◌≡◌, ℕ, List, None, Some}
use Rattle.pe_view.specs.Faults.{first_standing}
use Rattle.pe_layout.specs.SectionFaults.{layout_tests}
use Rattle.pe_text.specs.FaultLine.{fault_line}
use Rattle.pe_text.specs.declared.outcome.Outcome.{Outcome}
use Rattle.pe_text.specs.declared.outcome.Outcome.TheVariants.{Done, Refused}

-- a file is refused by the first of its faults 1 to 15, with its line, and otherwise not, whatever the list is
abbrev pub IsListed : List ℕ → Outcome → List ℕ → Type 0
IsListed file Done text = first_standing (layout_tests 0 file) ≡ None
IsListed file (Refused fault) text = (first_standing (layout_tests 0 file) ≡ Some fault) × (text ≡ fault_line fault)
