-- Where a call that adds findings may be out of memory: there is one to add.
use Rattle.std.proofs.Common.{◌≡◌, ◌≢◌, ◌∙◌, refl, ℕ, zero, suc, ◌+◌, ◌<◌, List, [], ◌∷◌, ◌++◌, Result, Ok, Err, sym, subst, arith, ap}
use Rattle.std.specs.List.{flat_map, range_with_len}
use Rattle.pe_view.specs.Faults.{Test}
use Rattle.pe_view.specs.declared.fault.Fault.{Fault}
use Rattle.pe_view.specs.Standing.{Adds, standing}
use Rattle.pe_view.specs.AllStanding.{some_after, some_before}

-- one of those of a number holds
pub some_of : (tests : ℕ → List Test) (a n k : ℕ) → k < n → standing (tests (a + k)) ≢ [] → standing (flat_map tests (range_with_len a n)) ≢ []
some_of tests a zero k lt some = absurd (omega (arith, lt))
some_of tests a (suc n) zero lt some =
    let same : a + 0 ≡ a = omega arith in
    some_before (tests a) (flat_map tests (range_with_len (a + 1) n)) (λ none. some (ap (λ (m : ℕ). standing (tests m)) same ∙ none))
some_of tests a (suc n) (suc k) lt some =
    let same : a + suc k ≡ a + 1 + k = omega arith in
    let less : k < n = omega (arith, lt) in
    some_after (tests a) (flat_map tests (range_with_len (a + 1) n)) (some_of tests (a + 1) n k less (λ none. some (ap (λ (m : ℕ). standing (tests m)) same ∙ none)))
