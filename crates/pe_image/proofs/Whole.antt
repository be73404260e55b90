-- Tables that were read up to the first fault.
use Rattle.std.proofs.Common.{◌≡◌, List, Option, None, Some, Result, Ok, Err, refl}
use Rattle.std.specs.Prelude.{IfOk, option_map}
use Rattle.pe_view.specs.Faults.{Test, first_standing, Refuses}
use Rattle.pe_view.specs.declared.fault.Fault.{Fault}
use Rattle.pe_view.specs.declared.refusal.Refusal.{Refusal}
use Rattle.pe_view.specs.declared.refusal.Refusal.TheVariants as refusals
use Rattle.pe_image.specs.ImageOf.{unless}

-- two properties of a value that may be an error
pub both_ok : {X E : Type 0} (P Q R : X → Type 0) (r : Result X E) → ((x : X) → P x → Q x → R x) → IfOk r P → IfOk r Q → IfOk r R
both_ok P Q R (Ok x) f p q = f x p q
both_ok P Q R (Err e) f p q = tt

-- what is there if no test holds
pub there : {X : Type 0} (tests : List Test) (x : X) → first_standing tests ≡ None → unless tests x ≡ Some x
there tests x none = rw none refl

-- the fault that was returned is the first
pub told : (tests : List Test) (error : Refusal) (fault : Option Fault) → option_map refusals.Fault fault ≡ Some error → Refuses tests error → first_standing tests ≡ fault
told tests refusals.Memory None e refuses = absurd cc
told tests refusals.Memory (Some f) e refuses = absurd cc
told tests (refusals.Fault g) None e refuses = absurd cc
told tests (refusals.Fault g) (Some f) e refuses = let same : f ≡ g = cc in rw same refuses

-- what is not there, since a fault was returned
pub absent : {X : Type 0} (tests : List Test) (x : X) (error : Refusal) (fault : Option Fault) → option_map refusals.Fault fault ≡ Some error → Refuses tests error → unless tests x ≡ None
absent tests x refusals.Memory None e refuses = absurd cc
absent tests x refusals.Memory (Some f) e refuses = absurd cc
absent tests x (refusals.Fault g) fault e refuses = rw refuses refl
