-- Tests of a file in two phases.
use Rattle.std.proofs.Common.{◌≡◌, List, ◌++◌, None, Result, Ok, Err, ◌∙◌}
use Rattle.pe_view.specs.Faults.{Test, first_standing, AnswersOrWants}
use Rattle.pe_view.specs.FirstStanding.{first-past, refused-past}
use Rattle.pe_view.specs.declared.refusal.Refusal.{Refusal}

-- the second phase after a first one without a fault
pub behind : {X : Type 0} (front rest : List Test) (P : X → Type 0) (result : Result X Refusal) → first_standing front ≡ None → AnswersOrWants rest P result → AnswersOrWants (front ++ rest) P result
behind front rest P (Ok x) none answers = (first-past front rest none ∙ answers.0, answers.1)
behind front rest P (Err error) none answers = refused-past front rest error none answers
