-- What an engine found in a file, by the file's faults; and the exit status for its result.
use Rattle.std.specs.Prelude.{ℕ, ◌≡◌, List, None, Some, Result, Ok, Err}
use Rattle.pe_view.specs.Faults.{Test, first_standing}
use Rattle.pe_text.specs.declared.outcome.Outcome.{Outcome}
use Rattle.pe_text.specs.declared.outcome.Outcome.TheVariants.{Done, Refused}
use Rattle.pe_text.specs.declared.outcome.ToolError.{ToolError}
use Rattle.pe_text.specs.declared.outcome.ToolError.TheVariants.{Read, Write, Memory}

-- the outcome of a file's tests: done if none holds, otherwise refused by the first fault
abbrev pub IsOutcomeOf : List Test → Outcome → Type 0
IsOutcomeOf tests Done = first_standing tests ≡ None
IsOutcomeOf tests (Refused fault) = first_standing tests ≡ Some fault

abbrev pub status_of : Result Outcome ToolError → ℕ
status_of (Ok Done) = 0
status_of (Ok (Refused _)) = 1
status_of (Err Read) = 3
status_of (Err Write) = 3
status_of (Err Memory) = 4
