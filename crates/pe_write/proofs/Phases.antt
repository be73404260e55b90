-- Tests of a file in phases.
use Rattle.std.proofs.Common.{◌≡◌, List, ◌++◌, None, Result, Ok, Err, ◌∙◌}
use Rattle.pe_view.specs.declared.fault.Fault.{Fault}
use Rattle.pe_view.specs.Faults.{Test, Answers, first_standing}
use Rattle.pe_view.specs.FirstStanding.{first-past}

-- tests after others of which none holds
pub answers-past : {X : Type 0} (front rest : List Test) (P Q : X → Type 0) (result : Result X Fault) → first_standing front ≡ None → ((x : X) → P x → Q x) → Answers rest P result → Answers (front ++ rest) Q result
answers-past front rest P Q (Ok x) none more answers = (first-past front rest none ∙ answers.0, more x answers.1)
answers-past front rest P Q (Err y) none more answers = first-past front rest none ∙ answers
