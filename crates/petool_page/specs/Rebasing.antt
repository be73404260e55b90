-- What is written of a file that is refused.
use Rattle.std.specs.Prelude.{ℕ, ◌≡◌, List, Some}
use Rattle.pe_view.specs.declared.fault.Fault.{Fault}
use Rattle.pe_view.specs.Faults.{Test, first_standing}
use Rattle.pe_text.specs.declared.outcome.Outcome.{Outcome}
use Rattle.pe_text.specs.Engine.{IsRefusal}

-- the outcome is the first fault of these tests, and the text its line
abbrev pub IsRefused : List Test → Outcome → List ℕ → Type 0
IsRefused tests outcome text = (fault : Fault) × ((first_standing tests ≡ Some fault) × IsRefusal fault outcome text)
