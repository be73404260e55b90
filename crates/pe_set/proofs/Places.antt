-- Where the images of a set are: what faults 43 to 47 test of each, image by image.
use Rattle.std.proofs.Common.{◌≡◌, ◌∙◌, ◌+◌, ◌%◌, ◌<◌, ◌==◌, ℕ, zero, suc, List, [], ◌∷◌, false, not, map, take, None, Some, refl, sym, ap, subst, arith, inl, inr}
use Rattle.std.specs.Prelude.{slice_get, nat_lt, ◌&&◌}
use Rattle.std.specs.List.{list_any}
use Rattle.std.proofs.lemmas.Bool.{or_parts, or_from, and_cases, ltb-false}
use Rattle.std.proofs.lemmas.Bool.Decides.{nat_tests}
use Rattle.std.proofs.lemmas.Option.{same_Some}
use Rattle.pe_view.specs.Faults.{Test, first_standing}
use Rattle.pe_view.specs.FirstStanding.{first-past, none_stands}
use Rattle.pe_ranges.specs.Ranges.{meets, AreApart}
use Rattle.pe_set.specs.Numbered.{numbered}
use Rattle.pe_set.specs.Placement.{Placement, address_limit, overlap, base_tests}
use Rattle.pe_set.specs.Set.{Module, placement_of}
use Rattle.pe_set.specs.SetFaults.{has_other_magic, placing_tests, places_tests}
use Rattle.pe_set.proofs.Distinct.{numbered_none}

-- if no test of an item holds, no test does
numbered_all : {X : Type 0} (f : ℕ → X → List Test) (n : ℕ) (xs : List X) → ((j : ℕ) (x : X) → slice_get xs j ≡ Some x → first_standing (f (n + j) x) ≡ None) → first_standing (numbered f n xs) ≡ None
numbered_all f n [] each = refl
numbered_all f n (x ∷ xs) each =
    first-past (f n x) (numbered f (n + 1) xs) (let here : n + 0 ≡ n = omega arith in subst (λ (k : ℕ). first_standing (f k x) ≡ None) here (each 0 x refl))
    ∙ numbered_all f (n + 1) xs (λ j y at. (let there : n + suc j ≡ n + 1 + j = omega arith in subst (λ (k : ℕ). first_standing (f k y) ≡ None) there (each (suc j) y at)))

-- ranges that do not meet
pub apart_unless : (a n b m : ℕ) → meets a n b m ≡ false → AreApart (b, m) (a, n)
apart_unless a n b m none = elim (and_cases (nat_lt a (b + m)) (nat_lt b (a + n)) none) [
  | inl after ↦ inl (ltb-false a (b + m) after)
  | inr before ↦ inr (ltb-false b (a + n) before)
]

-- ---- faults 44 to 47
pub record Fits (others : List Placement) (p : Placement) : Type 0 where
  pub aligned : not (p.base % 65536 == 0) ≡ false
  pub room : nat_lt (address_limit p.magic) (p.base + p.size) ≡ false
  pub preferred : (p.is_stripped && not (p.base == p.image_base)) ≡ false
  pub free : list_any (overlap p) others ≡ false

pub fits : (others : List Placement) (i : ℕ) (p : Placement) → first_standing (base_tests others i p) ≡ None → Fits others p
fits others i p none = record {
  aligned = none_stands (base_tests others i p) 0 _ none refl;
  room = none_stands (base_tests others i p) 1 _ none refl;
  preferred = none_stands (base_tests others i p) 2 _ none refl;
  free = none_stands (base_tests others i p) 3 _ none refl;
}

pub aligned_base : {others : List Placement} (p : Placement) → Fits others p → p.base % 65536 ≡ 0
aligned_base p ok = let aligned = ok.aligned in grind (arith, nat_tests)

none_of_base : (others : List Placement) (i : ℕ) (p : Placement) → Fits others p → first_standing (base_tests others i p) ≡ None
none_of_base others i p ok = rw (ok.aligned, ok.room, ok.preferred, ok.free) refl

-- ---- faults 43 to 47
pub record Stands (s : List Module) (j : ℕ) (m : Module) : Type 0 where
  pub alike : has_other_magic s m ≡ false
  pub fits : Fits (map placement_of (take j s)) (placement_of m)

pub stands : (s : List Module) → first_standing (places_tests s) ≡ None → (j : ℕ) (m : Module) → slice_get s j ≡ Some m → Stands s j m
unfolding places_tests
stands s none j m at =
    let here : 0 + j ≡ j = omega arith in
    let own = ap (λ k. first_standing (placing_tests s k m)) (sym here) ∙ numbered_none (placing_tests s) 0 s j m none at in
    let alike = none_stands (placing_tests s j m) 0 _ own refl in
    record {
      alike = alike;
      fits = fits (map placement_of (take j s)) j (placement_of m) (rw alike at own);
    }

pub all_stand : (s : List Module) → ((j : ℕ) (m : Module) → slice_get s j ≡ Some m → Stands s j m) → first_standing (places_tests s) ≡ None
unfolding places_tests
all_stand s each = numbered_all (placing_tests s) 0 s (λ j m at. own j m (each j m at))
  where
    own : (j : ℕ) (m : Module) → Stands s j m → first_standing (placing_tests s (0 + j) m) ≡ None
    own j m ok =
        let here : 0 + j ≡ j = omega arith in
        subst (λ (k : ℕ). first_standing (placing_tests s k m) ≡ None) (sym here) (rw ok.alike (none_of_base (map placement_of (take j s)) j (placement_of m) ok.fits))

-- ---- fault 47: no earlier image meets this one
pub none_before : (p : Placement) (s : List Module) (k j : ℕ) (n : Module) → list_any (overlap p) (map placement_of (take j s)) ≡ false → k < j → slice_get s k ≡ Some n → overlap p (placement_of n) ≡ false
none_before p [] k j n none lt at = absurd cc
none_before p (x ∷ s) k zero n none lt at = absurd (omega (arith, lt))
none_before p (x ∷ s) zero (suc j) n none lt at =
    ap (λ (m : Module). overlap p (placement_of m)) (sym (same_Some x n at)) ∙ (or_parts (overlap p (placement_of x)) (list_any (overlap p) (map placement_of (take j s))) none).0
none_before p (x ∷ s) (suc k) (suc j) n none lt at =
    none_before p s k j n (or_parts (overlap p (placement_of x)) (list_any (overlap p) (map placement_of (take j s))) none).1 (omega (arith, lt)) at

pub all_before : (p : Placement) (s : List Module) (j : ℕ) → ((k : ℕ) (n : Module) → k < j → slice_get s k ≡ Some n → overlap p (placement_of n) ≡ false) → list_any (overlap p) (map placement_of (take j s)) ≡ false
all_before p [] zero each = refl
all_before p [] (suc j) each = refl
all_before p (x ∷ s) zero each = refl
all_before p (x ∷ s) (suc j) each =
    or_from (overlap p (placement_of x)) (list_any (overlap p) (map placement_of (take j s)))
    (each 0 x (omega arith) refl)
    (all_before p s j (λ k n lt at. each (suc k) n (omega (arith, lt)) at))
