-- All faults of a list of tests, part by part; proofs of many crates use it.
use Rattle.std.proofs.Common.{◌≡◌, ◌≢◌, ◌∙◌, refl, Bool, true, false, cond, List, [], ◌∷◌, ◌++◌, Result, Ok, Err, sym, subst, ap, append_assoc}
use Rattle.pe_view.specs.declared.fault.Fault.{Fault}
use Rattle.pe_view.specs.Faults.{Test}
use Rattle.pe_view.specs.Standing.{Adds, standing}

here : (b : Bool) (y : Fault) (xs ys : List Fault) → cond b (y ∷ (xs ++ ys)) (xs ++ ys) ≡ cond b (y ∷ xs) xs ++ ys
here true y xs ys = refl
here false y xs ys = refl

-- of two lists
pub standing-append : (xs ys : List Test) → standing (xs ++ ys) ≡ standing xs ++ standing ys
standing-append [] ys = refl
standing-append (t ∷ ts) ys = ap (λ (rest : List Fault). cond t.stands (t.fault ∷ rest) rest) (standing-append ts ys) ∙ here t.stands t.fault (standing ts) (standing ys)

-- two lists, one after the other
pub both_found : (xs ys : List Test) (old middle new : List Fault) → middle ≡ old ++ standing xs → new ≡ middle ++ standing ys → new ≡ old ++ standing (xs ++ ys)
both_found xs ys old middle new first second =
    second
    ∙ ap (λ (fs : List Fault). fs ++ standing ys) first
    ∙ append_assoc old (standing xs) (standing ys)
    ∙ ap (λ (fs : List Fault). old ++ fs) (sym (standing-append xs ys))

front_empty : (xs ys : List Fault) → xs ++ ys ≡ [] → xs ≡ []
front_empty [] ys none = refl
front_empty (x ∷ xs) ys none = cc

back_empty : (xs ys : List Fault) → xs ++ ys ≡ [] → ys ≡ []
back_empty [] ys none = none
back_empty (x ∷ xs) ys none = cc

-- one of the first tests holds
pub some_before : (xs ys : List Test) → standing xs ≢ [] → standing (xs ++ ys) ≢ []
some_before xs ys some none = some (front_empty (standing xs) (standing ys) (sym (standing-append xs ys) ∙ none))

-- one of the last tests holds
pub some_after : (xs ys : List Test) → standing ys ≢ [] → standing (xs ++ ys) ≢ []
some_after xs ys some none = some (back_empty (standing xs) (standing ys) (sym (standing-append xs ys) ∙ none))

-- a call that is out of memory, where there is a finding to add
pub adds_wants : {E : Type 0} (tests : List Test) (old new : List Fault) (result : Result (Unit {0}) E) (error : E) → result ≡ Err error → standing tests ≢ [] → Adds tests old new result
adds_wants tests old new result error is some = subst (Adds tests old new) (sym is) some

-- a call after one that added all findings of the tests before
pub adds_after : {E : Type 0} → (xs ys : List Test) (old middle new : List Fault) (result : Result (Unit {0}) E) → middle ≡ old ++ standing xs → Adds ys middle new result
    → Adds (xs ++ ys) old new result
adds_after xs ys old middle new (Ok done) first second = both_found xs ys old middle new first second
adds_after xs ys old middle new (Err error) first second = some_after xs ys second
