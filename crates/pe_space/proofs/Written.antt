-- Fields and slots written one by one, compared with the wanted bytes.
use Rattle.std.proofs.Common.{◌≡◌, ℕ, zero, suc, ◌+◌, ◌-◌, ◌<◌, ◌≤◌, ◌⊎◌, ℤ, List, [], ◌∷◌, length, get_or, refl, ap, ◌∙◌, sym, subst, arith, inl, inr}
use Rattle.std.specs.List.{Contains}
use Rattle.std.proofs.lemmas.Bool.{cases_lt, cases_eq}
use Rattle.std.proofs.lemmas.List.{length-set, get_or-set_same, get_or-set_other}
use Rattle.pe_tables.specs.declared.fixups.Fixup.{Fixup}
use Rattle.pe_set.specs.declared.binding.Binding.{Binding}
use Rattle.pe_space.specs.Number.{digit, number_in, shift}
use Rattle.pe_space.specs.Content.{SpaceImage, nth_image, width_of, slot_width}
use Rattle.pe_tables.specs.Patch.{shifted_at}
use Rattle.pe_space.specs.Memory.{patch, bytes, with_shifted, shifted_all, memory_of, put_slot, address_of, bound}
use Rattle.pe_space.specs.FieldsAndSlots.{Each, EachPair, FieldsApart}
use Rattle.pe_tables.specs.Patched.{length-patch, length-bytes_from, written_in, written_out}
use Rattle.pe_space.proofs.Numbers.{same_number}
use Rattle.pe_space.proofs.Lists.{each_map, each_both}

-- inside a range, below it or above it
pub cases_in : (at w r : ℕ) → ((at ≤ r) × (r < at + w)) ⊎ ((r < at) ⊎ (at + w ≤ r))
cases_in at w r = elim (cases_lt r at) [
  | inl low ↦ inr (inl low)
  | inr up ↦ elim (cases_lt r (at + w)) [ inl inside ↦ inl (up, inside) | inr high ↦ inr (inr high) ]
]

-- the place is inside one of these fields
abbrev pub InField : ℕ → List Fixup → Type 0
InField r [] = ⊥
InField r (f ∷ fs) = ((f.field ≤ r) × (r < f.field + width_of f.kind)) ⊎ InField r fs

pub length-with_shifted : (d : ℤ) (f : Fixup) (xs : List ℕ) → f.field + width_of f.kind ≤ length xs → length (with_shifted d f xs) ≡ length xs
unfolding shifted_at
length-with_shifted d f xs h = let len = length-bytes_from 0 (width_of f.kind) (shift f.kind (number_in xs f.field (width_of f.kind)) d) in length-patch xs f.field _ (omega arith)

pub shifted_in : (d : ℤ) (f : Fixup) (xs : List ℕ) (r : ℕ) → f.field + width_of f.kind ≤ length xs → f.field ≤ r → r < f.field + width_of f.kind
    → get_or (with_shifted d f xs) r 0 ≡ digit (shift f.kind (number_in xs f.field (width_of f.kind)) d) (r - f.field)
unfolding shifted_at
shifted_in d f xs r fits low high = written_in xs f.field (width_of f.kind) _ r fits low high

pub shifted_out : (d : ℤ) (f : Fixup) (xs : List ℕ) (r : ℕ) → f.field + width_of f.kind ≤ length xs → (r < f.field) ⊎ (f.field + width_of f.kind ≤ r)
    → get_or (with_shifted d f xs) r 0 ≡ get_or xs r 0
unfolding shifted_at
shifted_out d f xs r fits out = written_out xs f.field (width_of f.kind) _ r fits out

-- a field disjoint from it keeps its number
pub shifted_other : (d : ℤ) (f g : Fixup) (xs : List ℕ) → f.field + width_of f.kind ≤ length xs → FieldsApart f g
    → number_in (with_shifted d f xs) g.field (width_of g.kind) ≡ number_in xs g.field (width_of g.kind)
shifted_other d f g xs fits apart =
    same_number (with_shifted d f xs) xs g.field g.field (width_of g.kind) (λ k lt. shifted_out d f xs (g.field + k) fits (out apart k lt))
  where
    out : FieldsApart f g → (k : ℕ) → k < width_of g.kind → (g.field + k < f.field) ⊎ (f.field + width_of f.kind ≤ g.field + k)
    out (inl before) k lt = inr (omega arith)
    out (inr after) k lt = inl (omega arith)

pub length-shifted_all : (d : ℤ) (fs : List Fixup) (xs : List ℕ) → Each (λ (f : Fixup). f.field + width_of f.kind ≤ length xs) fs → length (shifted_all d fs xs) ≡ length xs
length-shifted_all d [] xs fit = refl
length-shifted_all d (f ∷ fs) xs fit =
    let same = length-with_shifted d f xs fit.0 in
    length-shifted_all d fs (with_shifted d f xs) (each_map (λ (g : Fixup). g.field + width_of g.kind ≤ length xs) (λ (g : Fixup). g.field + width_of g.kind ≤ length (with_shifted d f xs)) fs (λ g h. omega arith) fit.1)
    ∙ same

-- a byte that is still wrong is in a field that is still to be written, or in Q
abbrev pub StillFields : (ℕ → ℕ) → (ℕ → Type 0) → ℕ → List Fixup → List ℕ → Type 0
StillFields T Q size fs xs = (r : ℕ) → r < size → (get_or xs r 0 ≡ T r) ⊎ (InField r fs ⊎ Q r)

field_done : (d : ℤ) (size : ℕ) (T : ℕ → ℕ) (Q : ℕ → Type 0) (f : Fixup) (fs : List Fixup) (xs : List ℕ)
    → f.field + width_of f.kind ≤ length xs
    → ((r : ℕ) → f.field ≤ r → r < f.field + width_of f.kind → T r ≡ digit (shift f.kind (number_in xs f.field (width_of f.kind)) d) (r - f.field))
    → StillFields T Q size (f ∷ fs) xs → StillFields T Q size fs (with_shifted d f xs)
field_done d size T Q f fs xs fits wanted still r lt = elim (cases_in f.field (width_of f.kind) r) [
  | inl inside ↦ inl (shifted_in d f xs r fits inside.0 inside.1 ∙ sym (wanted r inside.0 inside.1))
  | inr out ↦ elim (still r lt) [
    | inl right ↦ inl (shifted_out d f xs r fits out ∙ right)
    | inr (inl (inl here)) ↦ elim out [ inl low ↦ absurd (omega arith) | inr high ↦ absurd (omega arith) ]
    | inr (inl (inr later)) ↦ inr (inl later)
    | inr (inr q) ↦ inr (inr q)
  ]
]

-- fields that are relocated one by one have the wanted bytes
pub laid_fields : (d : ℤ) (size : ℕ) (T : ℕ → ℕ) (Q : ℕ → Type 0) (old : Fixup → ℕ) (fs : List Fixup) (xs : List ℕ)
    → Each (λ (f : Fixup). f.field + width_of f.kind ≤ length xs) fs
    → EachPair FieldsApart fs
    → Each (λ (f : Fixup). number_in xs f.field (width_of f.kind) ≡ old f) fs
    → Each (λ (f : Fixup). (r : ℕ) → f.field ≤ r → r < f.field + width_of f.kind → T r ≡ digit (shift f.kind (old f) d) (r - f.field)) fs
    → StillFields T Q size fs xs
    → (r : ℕ) → r < size → (get_or (shifted_all d fs xs) r 0 ≡ T r) ⊎ Q r
laid_fields d size T Q old [] xs fit apart held wanted still = λ r lt. elim (still r lt) [
  | inl right ↦ inl right
  | inr (inl none) ↦ absurd none
  | inr (inr q) ↦ inr q
]
laid_fields d size T Q old (f ∷ fs) xs fit apart held wanted still =
    let same = length-with_shifted d f xs fit.0 in
    laid_fields d size T Q old fs (with_shifted d f xs)
    (each_map (λ (g : Fixup). g.field + width_of g.kind ≤ length xs) (λ (g : Fixup). g.field + width_of g.kind ≤ length (with_shifted d f xs)) fs (λ g h. omega arith) fit.1)
    apart.1
    (each_map (λ (g : Fixup). FieldsApart f g × (number_in xs g.field (width_of g.kind) ≡ old g)) (λ (g : Fixup). number_in (with_shifted d f xs) g.field (width_of g.kind) ≡ old g) fs (λ g h. shifted_other d f g xs fit.0 h.0 ∙ h.1)
    (each_both (FieldsApart f) (λ (g : Fixup). number_in xs g.field (width_of g.kind) ≡ old g) fs apart.0 held.1))
    wanted.1
    (field_done d size T Q f fs xs fit.0 (λ r low high. rw held.0 (wanted.0 r low high)) still)

-- ---- slots
abbrev pub width_in : List SpaceImage → Binding → ℕ
width_in images b = slot_width (nth_image images b.image).magic

-- the place of image j is inside this slot
pub record IsAt (images : List SpaceImage) (j r : ℕ) (b : Binding) : Type 0 where
  pub image : b.image ≡ j
  pub low : b.slot ≤ r
  pub high : r < b.slot + width_in images b

-- the place of image j is inside one of these slots
abbrev pub InSlot : List SpaceImage → ℕ → ℕ → List Binding → Type 0
InSlot images j r [] = ⊥
InSlot images j r (b ∷ bs) = IsAt images j r b ⊎ InSlot images j r bs

pub in_one : (images : List SpaceImage) (j r : ℕ) (bs : List Binding) (b : Binding) → Contains bs b → IsAt images j r b → InSlot images j r bs
in_one images j r [] b (k, lt, is) at = absurd (omega (arith, lt))
in_one images j r (e ∷ bs) b (zero, lt, is) at = inl (subst (IsAt images j r) (sym is) at)
in_one images j r (e ∷ bs) b (suc k, lt, is) at = inr (in_one images j r bs b (k, omega (arith, lt), is) at)

-- the slot is inside a memory
pub record Fits (images : List SpaceImage) (ms : List (List ℕ)) (b : Binding) : Type 0 where
  pub image : b.image < length ms
  pub inside : b.slot + width_in images b ≤ length (memory_of ms b.image)

pub put_in : (images : List SpaceImage) (b : Binding) (v : ℕ) (ms : List (List ℕ)) (r : ℕ) → Fits images ms b → b.slot ≤ r → r < b.slot + width_in images b
    → get_or (memory_of (put_slot images b v ms) b.image) r 0 ≡ digit v (r - b.slot)
unfolding put_slot
put_in images b v ms r fits low high =
    let here : b.image < length ms = fits.image in
    rw (get_or-set_same ms b.image (patch (memory_of ms b.image) b.slot (bytes (width_in images b) v)) [] here) (written_in (memory_of ms b.image) b.slot (width_in images b) v r fits.inside low high)

pub put_out : (images : List SpaceImage) (b : Binding) (v : ℕ) (ms : List (List ℕ)) (r : ℕ) → Fits images ms b → (r < b.slot) ⊎ (b.slot + width_in images b ≤ r)
    → get_or (memory_of (put_slot images b v ms) b.image) r 0 ≡ get_or (memory_of ms b.image) r 0
unfolding put_slot
put_out images b v ms r fits out =
    let here : b.image < length ms = fits.image in
    rw (get_or-set_same ms b.image (patch (memory_of ms b.image) b.slot (bytes (width_in images b) v)) [] here) (written_out (memory_of ms b.image) b.slot (width_in images b) v r fits.inside out)

pub put_other : (images : List SpaceImage) (b : Binding) (v : ℕ) (ms : List (List ℕ)) (j : ℕ) → (j ≡ b.image → ⊥)
    → memory_of (put_slot images b v ms) j ≡ memory_of ms j
unfolding put_slot
put_other images b v ms j ne = get_or-set_other ms b.image j _ [] ne

pub put_length : (images : List SpaceImage) (b : Binding) (v : ℕ) (ms : List (List ℕ)) → Fits images ms b → (j : ℕ)
    → length (memory_of (put_slot images b v ms) j) ≡ length (memory_of ms j)
unfolding put_slot
put_length images b v ms fits j = elim (cases_eq j b.image) [
  | inl same ↦
      let here : b.image < length ms = fits.image in
      let len = length-bytes_from 0 (width_in images b) v in
      let inside = fits.inside in
      let w = bytes (width_in images b) v in
      rw (same, get_or-set_same ms b.image (patch (memory_of ms b.image) b.slot (bytes (width_in images b) v)) [] here) (length-patch (memory_of ms b.image) b.slot (bytes (width_in images b) v) (omega arith))
  | inr ne ↦ ap length (get_or-set_other ms b.image j _ [] ne)
]

pub put_count : (images : List SpaceImage) (b : Binding) (v : ℕ) (ms : List (List ℕ)) → length (put_slot images b v ms) ≡ length ms
unfolding put_slot
put_count images b v ms = length-set ms b.image _

put_fits : (images : List SpaceImage) (b e : Binding) (v : ℕ) (ms : List (List ℕ)) → Fits images ms b → Fits images ms e → Fits images (put_slot images b v ms) e
put_fits images b e v ms fits h =
    let n = put_count images b v ms in
    let m = put_length images b v ms fits e.image in
    let a = h.image in
    let c = h.inside in
    record { image = omega arith; inside = omega arith }

-- a byte that is still wrong is in a slot that is still to be written
abbrev pub StillSlots : List SpaceImage → (ℕ → ℕ → ℕ) → (ℕ → ℕ) → List Binding → List (List ℕ) → Type 0
StillSlots images T size bs ms = (j r : ℕ) → r < size j → (get_or (memory_of ms j) r 0 ≡ T j r) ⊎ InSlot images j r bs

slot_done : (images : List SpaceImage) (v : ℕ) (T : ℕ → ℕ → ℕ) (size : ℕ → ℕ) (b : Binding) (bs : List Binding) (ms : List (List ℕ))
    → Fits images ms b
    → ((r : ℕ) → b.slot ≤ r → r < b.slot + width_in images b → T b.image r ≡ digit v (r - b.slot))
    → StillSlots images T size (b ∷ bs) ms → StillSlots images T size bs (put_slot images b v ms)
slot_done images v T size b bs ms fits wanted still j r lt = elim (cases_eq j b.image) [
  | inl same ↦ elim (cases_in b.slot (width_in images b) r) [
    | inl inside ↦ inl (rw same (put_in images b v ms r fits inside.0 inside.1 ∙ sym (wanted r inside.0 inside.1)))
    | inr out ↦ elim (still j r lt) [
      | inl right ↦ inl (rw same (put_out images b v ms r fits out ∙ rw same at right))
      | inr (inl here) ↦ let low = here.low in let high = here.high in elim out [ inl below ↦ absurd (omega arith) | inr above ↦ absurd (omega arith) ]
      | inr (inr later) ↦ inr later
    ]
  ]
  | inr ne ↦ elim (still j r lt) [
    | inl right ↦ inl (rw (put_other images b v ms j ne) right)
    | inr (inl here) ↦ absurd (ne (sym here.image))
    | inr (inr later) ↦ inr later
  ]
]

-- slots that are written one by one have the wanted bytes
pub laid_slots : (images : List SpaceImage) (T : ℕ → ℕ → ℕ) (size : ℕ → ℕ) (bs : List Binding) (ms : List (List ℕ))
    → Each (Fits images ms) bs
    → Each (λ (b : Binding). (r : ℕ) → b.slot ≤ r → r < b.slot + width_in images b → T b.image r ≡ digit (address_of images b) (r - b.slot)) bs
    → StillSlots images T size bs ms
    → (j r : ℕ) → r < size j → get_or (memory_of (bound images bs ms) j) r 0 ≡ T j r
laid_slots images T size [] ms fits wanted still = λ j r lt. elim (still j r lt) [ inl right ↦ right | inr none ↦ absurd none ]
laid_slots images T size (b ∷ bs) ms fits wanted still =
    let address = address_of images b in
    laid_slots images T size bs (put_slot images b address ms)
    (each_map (Fits images ms) (Fits images (put_slot images b address ms)) bs (λ e h. put_fits images b e address ms fits.0 h) fits.1)
    wanted.1
    (slot_done images address T size b bs ms fits.0 wanted.0 still)

pub bound_lengths : (images : List SpaceImage) (bs : List Binding) (ms : List (List ℕ)) → Each (Fits images ms) bs
    → (length (bound images bs ms) ≡ length ms) × ((j : ℕ) → length (memory_of (bound images bs ms) j) ≡ length (memory_of ms j))
bound_lengths images [] ms fits = (refl, λ j. refl)
bound_lengths images (b ∷ bs) ms fits =
    let address = address_of images b in
    let more = bound_lengths images bs (put_slot images b address ms) (each_map (Fits images ms) (Fits images (put_slot images b address ms)) bs (λ e h. put_fits images b e address ms fits.0 h) fits.1) in
    (more.0 ∙ put_count images b address ms, λ j. more.1 j ∙ put_length images b address ms fits.0 j)
