-- A refusal by the faults of a part is one by the faults of the whole.
use Rattle.std.proofs.Common.{◌≡◌, ◌∙◌, List, Some, Result, Ok, Err, ap}
use Rattle.std.specs.Prelude.{IsErrOf}
use Rattle.pe_view.specs.declared.fault.Fault.{Fault}
use Rattle.pe_view.specs.Faults.{Test, first_standing, Refuses, AnswersOrWants}
use Rattle.pe_view.specs.declared.refusal.Refusal.{Refusal}
use Rattle.pe_view.specs.declared.refusal.Refusal.TheVariants as errors

pub refuses-whole : (part whole : List Test) → ((y : Fault) → first_standing part ≡ Some y → first_standing whole ≡ Some y) → (error : Refusal) → Refuses part error → Refuses whole error
refuses-whole part whole first errors.Memory refused = tt
refuses-whole part whole first (errors.Fault y) refused = first y refused

-- an error is the same in any result type
pub err_of : {X Y : Type 0} (error is : Refusal) → IsErrOf {T = X} (Err error) is → IsErrOf {T = Y} (Err error) is
err_of error is e = let same : error ≡ is = cc in ap (λ (x : Refusal). Err x) same

-- a result by the faults of a part, after parts without one, is one by the faults of the whole
pub answers-whole : {X : Type 0} (part whole : List Test) (P Q : X → Type 0) → first_standing whole ≡ first_standing part → ((x : X) → P x → Q x) → (result : Result X Refusal) → AnswersOrWants part P result → AnswersOrWants whole Q result
answers-whole part whole P Q same step (Ok x) answer = (same ∙ answer.0, step x answer.1)
answers-whole part whole P Q same step (Err error) answer = refuses-whole part whole (λ y some. same ∙ some) error answer
