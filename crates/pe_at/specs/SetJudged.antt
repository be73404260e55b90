-- The outcome of a page on a mapped set: the error that refuses the set, if any.
use Rattle.std.specs.Prelude.{ℕ, ◌≡◌, List, Option, None, Some}
use Rattle.pe_view.specs.declared.fault.Fault.{Fault}
use Rattle.pe_set.specs.Set.{Entry}
use Rattle.pe_set.specs.SetErrors.{set_error}
use Rattle.pe_set.specs.declared.entry.Policy.{Policy}
use Rattle.pe_set.specs.declared.error.MapError.{MapError}
use Rattle.pe_set.specs.declared.error.MapError.TheVariants as errors
use Rattle.pe_text.specs.declared.outcome.Outcome.{Outcome}
use Rattle.pe_text.specs.declared.outcome.Outcome.TheVariants.{Done, Refused}

-- an error is this fault, also as that of a cycle of forwarders
abbrev pub IsErrorOf : Option MapError → Fault → Type 0
IsErrorOf None fault = ⊥
IsErrorOf (Some errors.Memory) fault = ⊥
IsErrorOf (Some (errors.Fault own)) fault = fault ≡ own
IsErrorOf (Some (errors.Cycle own length)) fault = fault ≡ own

-- the outcome is that of the set's first error, whatever the page's text is
abbrev pub IsSetJudged : Policy → List Entry → Outcome → List ℕ → Type 0
IsSetJudged policy es Done text = set_error policy es ≡ None
IsSetJudged policy es (Refused fault) text = IsErrorOf (set_error policy es) fault
