-- The fields and slots that cover a place of an image, and windows over which they are written.
use Rattle.std.proofs.Common.{◌≡◌, ℕ, zero, suc, ◌+◌, ◌-◌, ◌<◌, ◌≤◌, ◌⊎◌, Bool, true, List, [], ◌∷◌, length, get_or, refl, ap, ◌∙◌, sym, subst, arith, inl, inr, Option, Some, None}
use Rattle.std.specs.List.{find, Contains}
use Rattle.std.proofs.lemmas.List.FromFn.{get_or-map-range_with_len, length-map-range_with_len}
use Rattle.pe_head.specs.declared.optional.Magic.{Magic}
use Rattle.pe_head.specs.declared.optional.Magic.TheVariants.{Pe32, Pe32Plus}
use Rattle.pe_layout.specs.Image as layout
use Rattle.pe_tables.specs.declared.fixups.Fixup.{Fixup}
use Rattle.pe_tables.specs.declared.fixups.FixupKind.{FixupKind}
use Rattle.pe_tables.specs.declared.fixups.FixupKind.TheVariants.{Bits32, Bits64, High, Low}
use Rattle.pe_set.specs.declared.binding.Binding.{Binding}
use Rattle.pe_space.specs.Unbound.{unbound}
use Rattle.pe_space.specs.Number.{digit}
use Rattle.pe_space.specs.Content.{SpaceImage, Content, nth_image, width_of, slot_width, is_in, in_field, in_slot, fixed_byte, byte_by, byte_in}
use Rattle.pe_space.specs.FieldsAndSlots.{FieldsApart, IsImage, FieldsAndSlotsApart}
use Rattle.pe_space.specs.Windows.{fixed_at, fixed_bytes}
use Rattle.pe_space.proofs.Defining.{plain_at, byte_same}
use Rattle.pe_space.proofs.Lists.{each_contains, find_in, finds_each}
use Rattle.pe_space.proofs.SlotsAndFields.{is_in-true, true-is_in, in_slot-true, value_of, slot_byte}
use Rattle.pe_space.proofs.Windows.{AnyOf, Still}

-- ---- elements
any_at : {X : Type 0} (p : X → Bool) (xs : List X) (k : ℕ) (x : X) → k < length xs → get_or xs k x ≡ x → p x ≡ true → AnyOf p xs
any_at p [] k x lt is passes = absurd (omega arith)
any_at p (y ∷ xs) zero x lt is passes = inl (subst (λ z. p z ≡ true) (sym is) passes)
any_at p (y ∷ xs) (suc k) x lt is passes = inr (any_at p xs k x (omega arith) is passes)

any_contains : {X : Type 0} (p : X → Bool) (xs : List X) (x : X) → Contains xs x → p x ≡ true → AnyOf p xs
any_contains p xs x c passes = any_at p xs c.0 x c.1 c.2 passes

-- ---- fields
pub field_width_small : (kind : FixupKind) → width_of kind ≤ 8
field_width_small High = omega arith
field_width_small Low = omega arith
field_width_small Bits32 = omega arith
field_width_small Bits64 = omega arith

clash : (f g : Fixup) (r : ℕ) → f.field ≤ r → r < f.field + width_of f.kind → FieldsApart g f → in_field r g ≡ true → ⊥
clash f g r low high apart passes =
    let in_g = is_in-true g.field (width_of g.kind) r passes in
    let a = in_g.0 in
    let d = in_g.1 in
    elim apart [ inl before ↦ absurd (omega arith) | inr after ↦ absurd (omega arith) ]

-- the byte of a field
pub field_at : (image : SpaceImage) (f : Fixup) (r : ℕ) → IsImage image → Contains image.fixups f → f.field ≤ r → r < f.field + width_of f.kind
    → fixed_at image r ≡ digit (value_of image f) (r - f.field)
field_at image f r sound c low high =
    ap (fixed_byte image r) (each_contains _ image.fixups f (finds_each FieldsApart image.fixups sound.apart) c (in_field r) (true-is_in f.field (width_of f.kind) r low high)
    (λ g apart passes. clash f g r low high apart passes))

-- before any field is written
pub fields_still : (image : SpaceImage) (i : layout.LaidOut) (fields : List Fixup) (start n : ℕ) (window : List ℕ) → window ≡ layout.bytes_at i start n
    → image.plain ≡ layout.bytes_at i 0 i.size → start + n ≤ i.size
    → ((f : Fixup) → Contains image.fixups f → start < f.field + 8 → f.field < start + n → Contains fields f)
    → Still (fixed_at image) in_field start fields window
fields_still image i fields start n window filled plain fits all k lt =
    let len : length window ≡ n = ap length filled ∙ length-map-range_with_len i.byte start n in
    by_found len (find (in_field (start + k)) image.fixups) refl
  where
    by_found : length window ≡ n → (o : Option Fixup) → find (in_field (start + k)) image.fixups ≡ o → (get_or window k 0 ≡ fixed_at image (start + k)) ⊎ AnyOf (in_field (start + k)) fields
    by_found len None is =
        inl (ap (λ (l : List ℕ). get_or l k 0) filled ∙ get_or-map-range_with_len i.byte start n k (start + k) 0 (omega (arith, lt, len)) refl
        ∙ sym (plain_at i (start + k) (omega (arith, lt, len, fits))) ∙ ap (λ (l : List ℕ). get_or l (start + k) 0) (sym plain)
        ∙ sym (ap (fixed_byte image (start + k)) is))
    by_found len (Some f) is =
        let both = find_in (in_field (start + k)) image.fixups f is in
        let range = is_in-true f.field (width_of f.kind) (start + k) both.1 in
        let low = range.0 in
        let high = range.1 in
        let small = field_width_small f.kind in
        inr (any_contains (in_field (start + k)) fields f (all f both.0 (omega (arith, high, small)) (omega (arith, low, lt, len))) both.1)

-- ---- slots
pub slot_width_small : (magic : Magic) → slot_width magic ≤ 8
slot_width_small Pe32 = omega arith
slot_width_small Pe32Plus = omega arith

-- an RVA is inside a slot of this width
abbrev pub in_slot_of : ℕ → ℕ → Binding → Bool
in_slot_of width r b = is_in b.slot width r

module _ (c : Content) (fields_and_slots : FieldsAndSlotsApart c) (whole : (j : ℕ) → length (nth_image c.images j).plain ≡ (nth_image c.images j).size) (j : ℕ) (here : j < length c.images) where
  -- before any slot is written
  pub slots_still : (width : ℕ) (slots : List Binding) (start n : ℕ) (window : List ℕ) → width ≡ slot_width (nth_image c.images j).magic
      → window ≡ fixed_bytes (nth_image c.images j) start n
      → ((b : Binding) → Contains c.bindings b → b.image ≡ j → start < b.slot + 8 → b.slot < start + n → Contains slots b)
      → Still (byte_in (unbound c) j) (in_slot_of width) start slots window
  unfolding fixed_bytes
  slots_still width slots start n window wide filled all k lt =
      let len : length window ≡ n = ap length filled ∙ length-map-range_with_len (fixed_at (nth_image c.images j)) start n in
      by_found len (find (in_slot j (nth_image c.images j).magic (start + k)) c.bindings) refl
    where
      by_found : length window ≡ n → (o : Option Binding) → find (in_slot j (nth_image c.images j).magic (start + k)) c.bindings ≡ o
          → (get_or window k 0 ≡ byte_in (unbound c) j (start + k)) ⊎ AnyOf (in_slot_of width (start + k)) slots
      by_found len None is =
          inl (ap (λ (l : List ℕ). get_or l k 0) filled ∙ get_or-map-range_with_len (fixed_at (nth_image c.images j)) start n k (start + k) 0 (omega (arith, lt, len)) refl
          ∙ sym (byte_same c fields_and_slots whole j here (start + k) ∙ ap (byte_by c j (start + k)) is))
      by_found len (Some b) is =
          let both = find_in (in_slot j (nth_image c.images j).magic (start + k)) c.bindings b is in
          let range = in_slot-true j (nth_image c.images j).magic (start + k) b both.1 in
          let low = range.1 in
          let high = range.2 in
          let small = slot_width_small (nth_image c.images j).magic in
          inr (any_contains (in_slot_of width (start + k)) slots b (all b both.0 range.0 (omega (arith, high, small)) (omega (arith, low, lt, len)))
          (true-is_in b.slot width (start + k) low (omega (arith, high, wide))))

  -- the byte of a slot
  pub slot_at : (b : Binding) (r : ℕ) → Contains c.bindings b → b.image ≡ j → b.slot ≤ r → r < b.slot + slot_width (nth_image c.images j).magic
      → byte_in (unbound c) j r ≡ digit ((nth_image c.images b.exporter).base + b.rva) (r - b.slot)
  slot_at b r held there low high =
      byte_same c fields_and_slots whole j here r
      ∙ subst (λ (i : ℕ). r < b.slot + slot_width (nth_image c.images i).magic → byte_in c i r ≡ digit ((nth_image c.images b.exporter).base + b.rva) (r - b.slot)) there
      (each_contains _ c.bindings b (slot_byte c fields_and_slots) held r low) high
