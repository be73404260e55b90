-- What is found, test by test.
use Rattle.std.proofs.Common.{◌≡◌, ◌∙◌, refl, Bool, true, false, cond, List, [], ◌∷◌, ◌++◌, sym, ap, append_assoc, append-nil}
use Rattle.pe_view.specs.Faults.{Test}
use Rattle.pe_view.specs.declared.fault.Fault.{Fault}
use Rattle.pe_view.specs.AllStanding.{standing-append}
use Rattle.pe_view.specs.Standing.{standing}

-- a further test that stands
pub one_stands : (ts : List Test) (y z : Fault) (b : Bool) (old new : List Fault) → old ≡ standing ts → new ≡ old ++ y ∷ [] → y ≡ z → b ≡ true → new ≡ standing (ts ++ record { stands = b; fault = z } ∷ [])
one_stands ts y z b old new before after same stands =
    after ∙ ap (λ (fs : List Fault). fs ++ y ∷ []) before ∙ ap (λ (x : Fault). standing ts ++ x ∷ []) same
    ∙ sym (standing-append ts (record { stands = true; fault = z } ∷ []))
    ∙ ap (λ (s : Bool). standing (ts ++ record { stands = s; fault = z } ∷ [])) (sym stands)

-- a further test that does not
pub none_stands : (ts : List Test) (z : Fault) (b : Bool) (old : List Fault) → old ≡ standing ts → b ≡ false → old ≡ standing (ts ++ record { stands = b; fault = z } ∷ [])
none_stands ts z b old before stands =
    before ∙ sym (append-nil (standing ts))
    ∙ sym (standing-append ts (record { stands = false; fault = z } ∷ []))
    ∙ ap (λ (s : Bool). standing (ts ++ record { stands = s; fault = z } ∷ [])) (sym stands)

-- tests one after the other
pub three : (ts : List Test) (a b c : Test) → ((ts ++ a ∷ []) ++ b ∷ []) ++ c ∷ [] ≡ ts ++ a ∷ b ∷ c ∷ []
three ts a b c = append_assoc (ts ++ a ∷ []) (b ∷ []) (c ∷ []) ∙ append_assoc ts (a ∷ []) (b ∷ c ∷ [])

pub two : (ts : List Test) (a b : Test) → (ts ++ a ∷ []) ++ b ∷ [] ≡ ts ++ a ∷ b ∷ []
two ts a b = append_assoc ts (a ∷ []) (b ∷ [])
