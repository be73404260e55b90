-- The errors of the items of a list, item by item.
use Rattle.std.proofs.Common.{◌≡◌, ◌∙◌, ℕ, ◌+◌, ◌≤◌, List, [], ◌∷◌, ◌++◌, drop, length, map, Option, Some, None, refl, sym, ap}
use Rattle.std.specs.List.{flat_map}
use Rattle.std.proofs.lemmas.List.{drop_all}
use Rattle.pe_set.specs.Numbered.{numbered}
use Rattle.pe_set.specs.SetErrors.{ErrorIs, first_error}
use Rattle.pe_set.specs.declared.error.MapError.{MapError}
use Rattle.pe_set.specs.declared.error.MapError.TheVariants as errors

pub error_past : (front rest : List MapError) → first_error front ≡ None → first_error (front ++ rest) ≡ first_error rest
error_past [] rest none = refl
error_past (error ∷ front) rest none = absurd cc

error_in : (front rest : List MapError) (error : MapError) → first_error front ≡ Some error → first_error (front ++ rest) ≡ Some error
error_in [] rest error is = absurd cc
error_in (other ∷ front) rest error is = is

-- the error of a part that is that of the whole
pub error-whole : (part whole : Option MapError) → ((error : MapError) → part ≡ Some error → whole ≡ Some error) → (error : MapError) → ErrorIs part error → ErrorIs whole error
error-whole part whole first errors.Memory is = tt
error-whole part whole first (errors.Fault fault) is = first (errors.Fault fault) is
error-whole part whole first (errors.Cycle fault length) is = first (errors.Cycle fault length) is

-- the error of the first of two parts, and of the second if the first has none
pub error-front : (front rest : List MapError) (error : MapError) → ErrorIs (first_error front) error → ErrorIs (first_error (front ++ rest)) error
error-front front rest error is = error-whole (first_error front) (first_error (front ++ rest)) (error_in front rest) error is

pub error-back : (front rest : List MapError) (error : MapError) → first_error front ≡ None → ErrorIs (first_error rest) error → ErrorIs (first_error (front ++ rest)) error
error-back front rest error none is = rw (error_past front rest none) is

module _ {X Y : Type 0} (view : X → Y) (f : ℕ → Y → List MapError) (xs : List X) (i : ℕ) (x : X) (next : drop i xs ≡ x ∷ drop (i + 1) xs)
    (rest : first_error (numbered f i (map view (drop i xs))) ≡ first_error (numbered f 0 (map view xs))) where
  from_here : first_error (numbered f 0 (map view xs)) ≡ first_error (f i (view x) ++ numbered f (i + 1) (map view (drop (i + 1) xs)))
  from_here = sym rest ∙ ap (λ (ys : List X). first_error (numbered f i (map view ys))) next

  -- item i has no error
  pub errors_past : first_error (f i (view x)) ≡ None → first_error (numbered f (i + 1) (map view (drop (i + 1) xs))) ≡ first_error (numbered f 0 (map view xs))
  errors_past none = sym (from_here ∙ error_past (f i (view x)) (numbered f (i + 1) (map view (drop (i + 1) xs))) none)

  -- it has one: that is the first of all
  pub errors_in : (error : MapError) → first_error (f i (view x)) ≡ Some error → first_error (numbered f 0 (map view xs)) ≡ Some error
  errors_in error some = from_here ∙ error_in (f i (view x)) (numbered f (i + 1) (map view (drop (i + 1) xs))) error some

-- all items were tested
pub errors_all : {X Y : Type 0} (view : X → Y) (f : ℕ → Y → List MapError) (xs : List X) (i : ℕ) → length xs ≤ i
    → first_error (numbered f i (map view (drop i xs))) ≡ first_error (numbered f 0 (map view xs)) → first_error (numbered f 0 (map view xs)) ≡ None
errors_all view f xs i le rest = sym rest ∙ ap (λ ys. first_error (numbered f i (map view ys))) (drop_all i xs le)

-- ---- the same without numbers
module _ {X Y : Type 0} (view : X → Y) (f : Y → List MapError) (xs : List X) (i : ℕ) (x : X) (next : drop i xs ≡ x ∷ drop (i + 1) xs)
    (rest : first_error (flat_map f (map view (drop i xs))) ≡ first_error (flat_map f (map view xs))) where
  flat_from_here : first_error (flat_map f (map view xs)) ≡ first_error (f (view x) ++ flat_map f (map view (drop (i + 1) xs)))
  flat_from_here = sym rest ∙ ap (λ (ys : List X). first_error (flat_map f (map view ys))) next

  pub flat_past : first_error (f (view x)) ≡ None → first_error (flat_map f (map view (drop (i + 1) xs))) ≡ first_error (flat_map f (map view xs))
  flat_past none = sym (flat_from_here ∙ error_past (f (view x)) (flat_map f (map view (drop (i + 1) xs))) none)

  pub flat_in : (error : MapError) → first_error (f (view x)) ≡ Some error → first_error (flat_map f (map view xs)) ≡ Some error
  flat_in error some = flat_from_here ∙ error_in (f (view x)) (flat_map f (map view (drop (i + 1) xs))) error some
