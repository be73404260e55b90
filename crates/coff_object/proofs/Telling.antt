-- What is found by a slot.
use Rattle.std.proofs.Common.{◌≡◌, ℕ, zero, suc, ◌+◌, ◌<◌, ◌≤◌, List, [], ◌∷◌, length, get_or, take, drop, Some, None, refl, ap, ◌∙◌, arith}
use Rattle.std.specs.Prelude.{slice_get, option_and_then, if◌then◌else◌}
use Rattle.std.specs.Str.{bytes_eq}
use Rattle.std.proofs.lemmas.List.{get_or-take, get_or-drop}
use Rattle.coff_object.specs.Slots.{Entry, offset_at}

-- the offset of the entry that a slot names
pub told : (entries : List Entry) (text : List ℕ) (slot i : ℕ) (e : Entry) → slot ≡ suc i → slice_get entries i ≡ Some e → offset_at entries text slot ≡ (if bytes_eq text e.0.now then Some e.1 else None)
told entries text slot i e is at = rw is (ap (option_and_then (λ (x : Entry). if bytes_eq text x.0.now then Some x.1 else None)) at)

-- a slot of the window is the one so far after the first
pub window_slot : (slots : List ℕ) (first j : ℕ) → j < 4 → get_or (take 4 (drop first slots)) j 0 ≡ get_or slots (first + j) 0
window_slot slots first j lt = get_or-take 4 (drop first slots) j 0 lt ∙ get_or-drop first slots j 0

pub past : (xs : List ℕ) (j : ℕ) → length xs ≤ j → get_or xs j 0 ≡ 0
past [] j le = refl
past (x ∷ xs) zero le = absurd (omega (arith, le))
past (x ∷ xs) (suc j) le = past xs j (omega (arith, le))
