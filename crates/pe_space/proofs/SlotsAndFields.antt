-- The bytes of slots and fields, whatever else the image holds.
use Rattle.std.proofs.Common.{◌≡◌, ℕ, ◌+◌, ◌-◌, ◌<◌, ◌≤◌, Bool, true, false, cond, ◌==◌, ◌&&◌, List, [], ◌∷◌, refl, ap, ◌∙◌, sym, subst, arith, inl, inr}
use Rattle.std.specs.Prelude.{Some, nat_le, nat_lt, pos, ◌-ℤ◌}
use Rattle.std.specs.List.{find, Contains}
use Rattle.std.proofs.lemmas.Bool.{cases_eq, eqb-true, eq-eqb, leb-true, le-leb}
use borrow.Author.Tests.{ltb-true, lt-ltb}
use Rattle.pe_tables.specs.declared.fixups.Fixup.{Fixup}
use Rattle.pe_set.specs.declared.binding.Binding.{Binding}
use Rattle.pe_head.specs.declared.optional.Magic.{Magic}
use Rattle.pe_space.specs.Number.{digit, number_in, shift}
use Rattle.pe_space.specs.Content.{SpaceImage, Content, nth_image, width_of, slot_width, is_in, in_field, in_slot, fixed_byte, byte_by, byte_in}
use Rattle.pe_space.specs.FieldsAndSlots.{Each, Apart, FieldsApart, SlotsApart, IsSlot, FieldsAndSlotsApart}
use Rattle.pe_space.proofs.Lists.{each_map, each_both, each_all, each_swap, none_found, find_in, Finds, finds_each}
use Rattle.pe_space.proofs.Written.{InField, IsAt, width_in}

-- ---- tests on ranges
both_true : (a b : Bool) → (a && b) ≡ true → (a ≡ true) × (b ≡ true)
both_true true b h = (refl, h)
both_true false b h = cc

pub is_in-true : (start n r : ℕ) → is_in start n r ≡ true → (start ≤ r) × (r < start + n)
is_in-true start n r h = let both = both_true (nat_le start r) (nat_lt r (start + n)) h in (leb-true start r both.0, ltb-true r (start + n) both.1)

pub true-is_in : (start n r : ℕ) → start ≤ r → r < start + n → is_in start n r ≡ true
true-is_in start n r low high = rw (le-leb start r low, lt-ltb r (start + n) high) refl

pub in_slot-true : (j : ℕ) (magic : Magic) (r : ℕ) (b : Binding) → in_slot j magic r b ≡ true → (b.image ≡ j) × (b.slot ≤ r) × (r < b.slot + slot_width magic)
in_slot-true j magic r b h = let both = both_true (b.image == j) (is_in b.slot (slot_width magic) r) h in let range = is_in-true b.slot (slot_width magic) r both.1 in (eqb-true b.image j both.0, range.0, range.1)

pub true-in_slot : (magic : Magic) (r : ℕ) (b : Binding) → b.slot ≤ r → r < b.slot + slot_width magic → in_slot b.image magic r b ≡ true
true-in_slot magic r b low high = rw (eq-eqb b.image b.image refl, true-is_in b.slot (slot_width magic) r low high) refl

-- ---- the byte of a slot and of a field
pub slot_byte : (c : Content) → FieldsAndSlotsApart c → Each (λ (b : Binding). (r : ℕ) → b.slot ≤ r → r < b.slot + width_in c.images b → byte_in c b.image r ≡ digit ((nth_image c.images b.exporter).base + b.rva) (r - b.slot)) c.bindings
slot_byte c fields_and_slots =
    each_map (Finds (SlotsApart c.images) c.bindings)
    (λ (b : Binding). (r : ℕ) → b.slot ≤ r → r < b.slot + width_in c.images b → byte_in c b.image r ≡ digit ((nth_image c.images b.exporter).base + b.rva) (r - b.slot)) c.bindings
    (λ b finds r low high. ap (byte_by c b.image r) (finds (in_slot b.image (nth_image c.images b.image).magic r) (true-in_slot _ r b low high) (λ e apart passes. clash b e r low high apart passes)))
    (finds_each (SlotsApart c.images) c.bindings fields_and_slots.apart)
  where
    clash : (b e : Binding) (r : ℕ) → b.slot ≤ r → r < b.slot + width_in c.images b → SlotsApart c.images e b → in_slot b.image (nth_image c.images b.image).magic r e ≡ true → ⊥
    clash b e r low high apart passes =
        let in_e = in_slot-true b.image (nth_image c.images b.image).magic r e passes in
        let same : slot_width (nth_image c.images e.image).magic ≡ slot_width (nth_image c.images b.image).magic = ap (λ (j : ℕ). slot_width (nth_image c.images j).magic) in_e.0 in
        let a = in_e.1 in
        let d = in_e.2 in
        elim (apart in_e.0) [ inl before ↦ absurd (omega arith) | inr after ↦ absurd (omega arith) ]

pub no_slot : (c : Content) (j : ℕ) → FieldsAndSlotsApart c → Each (λ (f : Fixup). Each (λ (b : Binding). b.image ≡ j → Apart b.slot (width_in c.images b) f.field (width_of f.kind)) c.bindings) (nth_image c.images j).fixups
no_slot c j fields_and_slots =
    each_swap (λ (b : Binding) (f : Fixup). b.image ≡ j → Apart b.slot (width_in c.images b) f.field (width_of f.kind)) c.bindings (nth_image c.images j).fixups
    (each_map (IsSlot c.images) (λ (b : Binding). Each (λ (f : Fixup). b.image ≡ j → Apart b.slot (width_in c.images b) f.field (width_of f.kind)) (nth_image c.images j).fixups) c.bindings (λ b slot. off b slot) fields_and_slots.slots)
  where
    off : (b : Binding) → IsSlot c.images b → Each (λ (f : Fixup). b.image ≡ j → Apart b.slot (width_in c.images b) f.field (width_of f.kind)) (nth_image c.images j).fixups
    off b slot = elim (cases_eq b.image j) [
      | inl same ↦ subst (λ (k : ℕ). Each (λ (f : Fixup). b.image ≡ j → Apart b.slot (width_in c.images b) f.field (width_of f.kind)) (nth_image c.images k).fixups) same
          (each_map (λ (f : Fixup). Apart b.slot (width_in c.images b) f.field (width_of f.kind)) (λ (f : Fixup). b.image ≡ j → Apart b.slot (width_in c.images b) f.field (width_of f.kind)) (nth_image c.images b.image).fixups (λ f apart _. apart) slot.off_fields)
      | inr ne ↦ each_all _ (nth_image c.images j).fixups (λ f same. absurd (ne same))
    ]

-- the number in a field
abbrev pub value_of : SpaceImage → Fixup → ℕ
value_of image f = shift f.kind (number_in image.plain f.field (width_of f.kind)) (pos image.base -ℤ pos image.image_base)

pub field_byte : (c : Content) (j : ℕ) → FieldsAndSlotsApart c → Each (λ (f : Fixup). (r : ℕ) → f.field ≤ r → r < f.field + width_of f.kind → byte_in c j r ≡ digit (value_of (nth_image c.images j) f) (r - f.field)) (nth_image c.images j).fixups
field_byte c j fields_and_slots =
    each_map (λ (f : Fixup). Finds FieldsApart fs f × Each (λ (b : Binding). b.image ≡ j → Apart b.slot (width_in c.images b) f.field (width_of f.kind)) c.bindings)
    (λ (f : Fixup). (r : ℕ) → f.field ≤ r → r < f.field + width_of f.kind → byte_in c j r ≡ digit (value_of (nth_image c.images j) f) (r - f.field)) fs
    (λ f both r low high.
    ap (byte_by c j r) (none_found (in_slot j (nth_image c.images j).magic r) c.bindings (each_map _ _ c.bindings (λ b apart passes. off f b r low high apart passes) both.1))
    ∙ ap (fixed_byte (nth_image c.images j) r) (both.0 (in_field r) (true-is_in f.field (width_of f.kind) r low high) (λ g apart passes. clash f g r low high apart passes)))
    (each_both _ _ fs (finds_each FieldsApart fs (fields_and_slots.images j).apart) (no_slot c j fields_and_slots))
  where
    fs : List Fixup
    fs = (nth_image c.images j).fixups

    off : (f : Fixup) (b : Binding) (r : ℕ) → f.field ≤ r → r < f.field + width_of f.kind → (b.image ≡ j → Apart b.slot (width_in c.images b) f.field (width_of f.kind)) → in_slot j (nth_image c.images j).magic r b ≡ true → ⊥
    off f b r low high apart passes =
        let in_b = in_slot-true j (nth_image c.images j).magic r b passes in
        let same : slot_width (nth_image c.images b.image).magic ≡ slot_width (nth_image c.images j).magic = ap (λ (k : ℕ). slot_width (nth_image c.images k).magic) in_b.0 in
        let a = in_b.1 in
        let d = in_b.2 in
        elim (apart in_b.0) [ inl before ↦ absurd (omega arith) | inr after ↦ absurd (omega arith) ]

    clash : (f g : Fixup) (r : ℕ) → f.field ≤ r → r < f.field + width_of f.kind → FieldsApart g f → in_field r g ≡ true → ⊥
    clash f g r low high apart passes =
        let in_g = is_in-true g.field (width_of g.kind) r passes in
        let a = in_g.0 in
        let d = in_g.1 in
        elim apart [ inl before ↦ absurd (omega arith) | inr after ↦ absurd (omega arith) ]

-- a slot found by a search
pub slot_found : (images : List SpaceImage) (j r : ℕ) (bs : List Binding) (b : Binding) → find (in_slot j (nth_image images j).magic r) bs ≡ Some b → Contains bs b × IsAt images j r b
slot_found images j r bs b h =
    let held = find_in (in_slot j (nth_image images j).magic r) bs b h in
    let at = in_slot-true j (nth_image images j).magic r b held.1 in
    (held.0, record { image = at.0; low = at.1; high = subst (λ (k : ℕ). r < b.slot + slot_width (nth_image images k).magic) (sym at.0) at.2 })

pub in_fields : (r : ℕ) (fs : List Fixup) (f : Fixup) → find (in_field r) fs ≡ Some f → InField r fs
in_fields r [] f h = cc
in_fields r (g ∷ fs) f h = step (in_fields r fs f) (in_field r g) refl h
  where
    step : (find (in_field r) fs ≡ Some f → InField r fs) → (t : Bool) → in_field r g ≡ t → cond t (Some g) (find (in_field r) fs) ≡ Some f → InField r (g ∷ fs)
    step more true passes h = inl (is_in-true g.field (width_of g.kind) r passes)
    step more false passes h = inr (more h)
