-- The outcome of tests after others of which none holds.
use Rattle.std.proofs.Common.{◌≡◌, ◌∙◌, List, ◌++◌, None}
use Rattle.pe_view.specs.Faults.{Test, first_standing}
use Rattle.pe_view.specs.FirstStanding.{first-past}
use Rattle.pe_text.specs.declared.outcome.Outcome.{Outcome}
use Rattle.pe_text.specs.declared.outcome.Outcome.TheVariants.{Done, Refused}
use Rattle.pe_text.specs.Outcome.{IsOutcomeOf}

pub behind : (front rest : List Test) (outcome : Outcome) → first_standing front ≡ None → IsOutcomeOf rest outcome → IsOutcomeOf (front ++ rest) outcome
behind front rest Done none p = first-past front rest none ∙ p
behind front rest (Refused fault) none p = first-past front rest none ∙ p
