-- Strings that have a place.
use Rattle.std.proofs.Common.{◌≡◌, ◌∙◌, ℕ, Bool, true, false, List, [], ◌∷◌, Option, Some, refl, sym, ap, inl, inr}
use Rattle.std.specs.Borrow.{Bor}
use Rattle.std.specs.Prelude.{All, ◌&&◌, if◌then◌else◌}
use Rattle.std.specs.Str.{bytes_eq}
use Rattle.std.proofs.lemmas.Bool.{cases_Bool}
use Rattle.std.proofs.lemmas.List.Elements.{All-head, All-tail}
use Rattle.std.proofs.lemmas.Slice.Eq.{bytes_eq-Decides}
use Rattle.pe_tables.specs.TextMap.{found}
use Rattle.pe_tables.specs.TextSlots.{slot_or}

abbrev Slot : Type 0 → Type 0
Slot X = Bor (List ℕ) × Option X

module _ {X : Type 0} where
  -- where each string has what a map has for it, no search tells them apart
  pub held_as : (g : List ℕ → Option X) (text : List ℕ) (slots : List (Slot X)) → All (λ (slot : Slot X). slot.1 ≡ g slot.0.now) slots → slot_or (found text slots) (g text) ≡ g text
  held_as g text [] all = refl
  held_as g text (s ∷ slots) all = elim (cases_Bool (bytes_eq text s.0.now)) [
    | inl is ↦
        (let here : found text (s ∷ slots) ≡ Some s.1 = rw is refl in
        ap (λ o. slot_or o (g text)) here ∙ All-head (λ (slot : Slot X). slot.1 ≡ g slot.0.now) s slots all ∙ ap g (sym ((bytes_eq-Decides text s.0.now).0 is)))
    | inr differs ↦
        (let later : found text (s ∷ slots) ≡ found text slots = rw differs refl in
        ap (λ o. slot_or o (g text)) later ∙ held_as g text slots (All-tail (λ (slot : Slot X). slot.1 ≡ g slot.0.now) s slots all))
  ]

  -- a string that has a place has what was added there, or else what others have
  pub added_slot : (b c : Bool) (v old : Option X) (slots new : Option (Option X)) → new ≡ (if b && c then Some v else slots) → slot_or new old ≡ (if b && c then v else slot_or slots old)
  added_slot true true v old slots new is = ap (λ o. slot_or o old) is
  added_slot true false v old slots new is = ap (λ o. slot_or o old) is
  added_slot false c v old slots new is = ap (λ o. slot_or o old) is
