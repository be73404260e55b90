-- What is found, test by test.
use Rattle.std.proofs.Common.{◌≡◌, ◌∙◌, refl, ℕ, zero, suc, ◌+◌, Bool, true, false, cond, List, [], ◌∷◌, ◌++◌, sym, ap, append_assoc, zero-add, arith}
use Rattle.std.specs.List.{flat_map, range_with_len}
use Rattle.std.proofs.lemmas.List.{flat_map_more}
use Rattle.pe_view.specs.Faults.{Test, test}
use Rattle.pe_view.specs.declared.fault.Fault.{Fault}
use Rattle.pe_view.specs.declared.fault.Place.{Place}
use Rattle.pe_view.specs.AllStanding.{standing-append}
use Rattle.pe_view.specs.Standing.{standing, tests_at}

-- one number more
range_more : (a n : ℕ) → range_with_len a (suc n) ≡ range_with_len a n ++ (a + n) ∷ []
range_more a zero = let same : a ≡ a + 0 = omega arith in ap (λ (k : ℕ). k ∷ []) same
range_more a (suc n) =
    let same : a + 1 + n ≡ a + suc n = omega arith in
    ap (λ (ks : List ℕ). a ∷ ks) (range_more (a + 1) n ∙ ap (λ (k : ℕ). range_with_len (a + 1) n ++ k ∷ []) same)

-- what a further record of a table finds
pub records_more : (tests : ℕ → List Test) (k : ℕ) (base old new : List Fault) → old ≡ base ++ standing (flat_map tests (range_with_len 0 k)) → new ≡ old ++ standing (tests k)
    → new ≡ base ++ standing (flat_map tests (range_with_len 0 (k + 1)))
records_more tests k base old new before after =
    let next : k + 1 ≡ suc k = omega arith in
    let done = flat_map tests (range_with_len 0 k) in
    after
    ∙ ap (λ (fs : List Fault). fs ++ standing (tests k)) before
    ∙ append_assoc base (standing done) (standing (tests k))
    ∙ ap (λ (fs : List Fault). base ++ fs) (sym (standing-append done (tests k)))
    ∙ ap (λ (ts : List Test). base ++ standing ts) (flat_map_more tests [] (range_with_len 0 k) k)
    ∙ ap (λ (j : ℕ). base ++ standing (flat_map tests (range_with_len 0 k ++ j ∷ []))) (sym (zero-add k))
    ∙ ap (λ (ks : List ℕ). base ++ standing (flat_map tests ks)) (sym (range_more 0 k) ∙ ap (range_with_len 0) (sym next))

-- what a further rule of one place finds: `new` has its finding, where it stands
pub rule_more : (image : ℕ) (place : Place) (number : ℕ) (stands : Bool) (rules : List (ℕ × Bool)) (old new whole : List Fault)
    → old ++ standing (tests_at image place ((number, stands) ∷ rules)) ≡ whole
    → new ≡ old ++ standing (test number image place stands ∷ [])
    → new ++ standing (tests_at image place rules) ≡ whole
rule_more image place number true rules old new whole before after =
    let fault : Fault = record { number = number; image = image; place = place } in
    ap (λ (fs : List Fault). fs ++ standing (tests_at image place rules)) after ∙ append_assoc old (fault ∷ []) (standing (tests_at image place rules)) ∙ before
rule_more image place number false rules old new whole before after =
    ap (λ (fs : List Fault). fs ++ standing (tests_at image place rules)) after ∙ append_assoc old [] (standing (tests_at image place rules)) ∙ before
