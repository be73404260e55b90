-- The tests of the items of a list, item by item.
use Rattle.std.proofs.Common.{◌≡◌, ℕ, ◌+◌, ◌<◌, ◌≤◌, List, ◌∷◌, ◌++◌, drop, get_or, length, map, Option, Some, None, refl, sym, ap, ◌∙◌, append_assoc}
use Rattle.std.specs.List.{filter_map, cons_option}
use Rattle.std.specs.Prelude.{option_to_list}
use Rattle.std.proofs.lemmas.List.{at_drop_more, drop_all}
use Rattle.pe_view.specs.declared.fault.Fault.{Fault}
use Rattle.pe_view.specs.Faults.{Test, first_standing}
use Rattle.pe_view.specs.FirstStanding.{first-past, first-in}
use Rattle.pe_set.specs.Numbered.{numbered}
use Rattle.pe_set.specs.SetFaults.{RefusesClass, map_error}
use Rattle.pe_set.specs.declared.error.MapError.{MapError}
use Rattle.pe_set.specs.declared.error.MapError.TheVariants as errors
use Rattle.pe_view.specs.Faults.{Refuses as TableRefuses}
use Rattle.pe_view.specs.declared.refusal.Refusal.{Refusal}
use Rattle.pe_view.specs.declared.refusal.Refusal.TheVariants as refusals

-- the items from i on are item i and those after it
pub next_item : {X : Type 0} (xs : List X) (i : ℕ) (d : X) → i < length xs → drop i xs ≡ get_or xs i d ∷ drop (i + 1) xs
next_item xs i d lt = at_drop_more (λ ys. ys) xs i d lt

pub next_here : {X : Type 0} (xs : List X) (i : ℕ) (x : X) → x ≡ get_or xs i x → i < length xs → drop i xs ≡ x ∷ drop (i + 1) xs
next_here xs i x is lt = next_item xs i x lt ∙ ap (λ y. y ∷ drop (i + 1) xs) (sym is)

-- a refusal by the faults of a part is one by the faults of the whole
pub refuses-whole : (part whole : List Test) → ((y : Fault) → first_standing part ≡ Some y → first_standing whole ≡ Some y) → (error : MapError) → RefusesClass part error → RefusesClass whole error
refuses-whole part whole first errors.Memory refused = tt
refuses-whole part whole first (errors.Fault y) refused = first y refused
refuses-whole part whole first (errors.Cycle y length) refused = absurd refused

pub refuses-table : (part whole : List Test) → ((y : Fault) → first_standing part ≡ Some y → first_standing whole ≡ Some y) → (error : Refusal) → TableRefuses part error → RefusesClass whole (map_error error)
refuses-table part whole first refusals.Memory refused = tt
refuses-table part whole first (refusals.Fault y) refused = first y refused

module _ {X Y : Type 0} (view : X → Y) (f : ℕ → Y → List Test) (xs : List X) (i : ℕ) (x : X) (next : drop i xs ≡ x ∷ drop (i + 1) xs)
    (rest : first_standing (numbered f i (map view (drop i xs))) ≡ first_standing (numbered f 0 (map view xs))) where
  from_here : first_standing (numbered f 0 (map view xs)) ≡ first_standing (f i (view x) ++ numbered f (i + 1) (map view (drop (i + 1) xs)))
  from_here = sym rest ∙ ap (λ (ys : List X). first_standing (numbered f i (map view ys))) next

  -- no test of item i holds
  pub asked_past : first_standing (f i (view x)) ≡ None → first_standing (numbered f (i + 1) (map view (drop (i + 1) xs))) ≡ first_standing (numbered f 0 (map view xs))
  asked_past none = sym (from_here ∙ first-past (f i (view x)) (numbered f (i + 1) (map view (drop (i + 1) xs))) none)

  -- one holds: it is the first of all
  pub asked_in : (y : Fault) → first_standing (f i (view x)) ≡ Some y → first_standing (numbered f 0 (map view xs)) ≡ Some y
  asked_in y some = from_here ∙ first-in (f i (view x)) (numbered f (i + 1) (map view (drop (i + 1) xs))) y some

-- the tests of all items were made
pub asked_all : {X Y : Type 0} (view : X → Y) (f : ℕ → Y → List Test) (xs : List X) (i : ℕ) → length xs ≤ i
    → first_standing (numbered f i (map view (drop i xs))) ≡ first_standing (numbered f 0 (map view xs)) → first_standing (numbered f 0 (map view xs)) ≡ None
asked_all view f xs i le rest = sym rest ∙ ap (λ ys. first_standing (numbered f i (map view ys))) (drop_all i xs le)

cons_option-list : {Y : Type 0} (o : Option Y) (ys : List Y) → cons_option o ys ≡ option_to_list o ++ ys
cons_option-list None ys = refl
cons_option-list (Some y) ys = refl

filter_map-cons : {X Y : Type 0} (f : X → Option Y) (x : X) (xs : List X) → filter_map f (x ∷ xs) ≡ option_to_list (f x) ++ filter_map f xs
filter_map-cons f x xs = cons_option-list (f x) (filter_map f xs)

-- what item i gives is moved from what is left to what was collected
module _ {X Y Z : Type 0} (view : X → Y) (xs : List X) (i : ℕ) (x : X) (next : drop i xs ≡ x ∷ drop (i + 1) xs) (old whole : List Z) where
  pub gathered : (f : ℕ → Y → List Z) → old ++ numbered f i (map view (drop i xs)) ≡ whole → (new : List Z) → new ≡ old ++ f i (view x)
      → new ++ numbered f (i + 1) (map view (drop (i + 1) xs)) ≡ whole
  gathered f before new is =
      ap (λ zs. zs ++ numbered f (i + 1) (map view (drop (i + 1) xs))) is
      ∙ append_assoc old (f i (view x)) (numbered f (i + 1) (map view (drop (i + 1) xs)))
      ∙ ap (λ ys. old ++ numbered f i (map view ys)) (sym next)
      ∙ before

  pub gathered_some : (f : Y → Option Z) → old ++ filter_map f (map view (drop i xs)) ≡ whole → (new : List Z) → new ≡ old ++ option_to_list (f (view x))
      → new ++ filter_map f (map view (drop (i + 1) xs)) ≡ whole
  gathered_some f before new is =
      ap (λ zs. zs ++ filter_map f (map view (drop (i + 1) xs))) is
      ∙ append_assoc old (option_to_list (f (view x))) (filter_map f (map view (drop (i + 1) xs)))
      ∙ ap (λ zs. old ++ zs) (sym (filter_map-cons f (view x) (map view (drop (i + 1) xs))))
      ∙ ap (λ ys. old ++ filter_map f (map view ys)) (sym next)
      ∙ before
