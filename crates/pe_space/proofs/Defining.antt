-- The content of a set has at each address the byte that the set defines.
use Rattle.std.proofs.Common.{◌≡◌, ◌∙◌, ◌+◌, ◌-◌, ◌*◌, ◌<◌, ◌≤◌, ℕ, zero, suc, Bool, true, false, cond, List, [], ◌∷◌, length, map, get_or, Option, None, Some, refl, sym, ap, subst, arith, inl, inr}
use Rattle.std.specs.Prelude.{pos, ◌-ℤ◌, slice_get, unwrap_or, ◌==◌, Result, Ok, Err}
use Rattle.std.specs.Option.{option_map_or}
use Rattle.pe_set.specs.Placement.{Placement}
use Rattle.pe_view.specs.declared.fault.Fault.{Fault}
use Rattle.std.specs.List.{find}
use Rattle.std.proofs.lemmas.Option.{same_Some}
use Rattle.std.proofs.lemmas.List.FromFn.{get_or-map-range_with_len}
use Rattle.pe_set.specs.Set.{Module}
use Rattle.pe_set.specs.Bindings.{bindings_of}
use Rattle.pe_space.specs.SetContent.{image_content, laid_out, byte_of_image, byte_in_image, defined_from, defined_byte}
use Rattle.pe_space.proofs.Images.{image_got}
use Rattle.pe_view.specs.Number.{num}
use Rattle.pe_layout.specs.Image as layout
use Rattle.pe_tables.specs.Fixups.{width_of}
use Rattle.pe_tables.specs.Relocated.{relocated_by}
use Rattle.pe_tables.specs.declared.fixups.Fixup.{Fixup}
use Rattle.pe_set.specs.declared.binding.Binding.{Binding}
use Rattle.pe_space.specs.Number.{digit, number_in, shift}
use Rattle.pe_space.specs.Content.{SpaceImage, Content, placement_of, placed_from, nth_image, slot_width, is_in, in_slot, in_field, fixed_byte, byte_by, byte_in, holder_from, byte_held, byte_at, bytes_from, window_image, image_at, window_in, window_at}
use Rattle.pe_space.specs.Unbound.{without_slots, unbound_images, unbound}
use Rattle.pe_space.specs.FieldsAndSlots.{Each, Apart, IsSlot, FieldsAndSlotsApart}
use Rattle.pe_space.proofs.Lists.{each_map, each_both}
use Rattle.pe_space.proofs.Numbers.{same_number}
use Rattle.pe_space.proofs.Unbinding.{bare_same, image_bared}
use Rattle.pe_space.proofs.Written.{cases_in, width_in}
use Rattle.pe_space.proofs.SlotsAndFields.{true-in_slot, is_in-true}
use Rattle.pe_space.proofs.Addressing.{holder_inside}

-- ---- what is found
found_step : {X : Type 0} (P : X → Type 0) (p : X → Bool) (x : X) (y : X) (o : Option X) (b : Bool) → p x ≡ b → P x → (o ≡ Some y → P y × (p y ≡ true)) → cond b (Some x) o ≡ Some y → P y × (p y ≡ true)
found_step P p x y o true is here later e = let same = same_Some x y e in (subst P same here, subst (λ z. p z ≡ true) same is)
found_step P p x y o false is here later e = later e

pub each_found : {X : Type 0} (P : X → Type 0) (p : X → Bool) (xs : List X) (y : X) → Each P xs → find p xs ≡ Some y → P y × (p y ≡ true)
each_found P p [] y e is = absurd cc
each_found P p (x ∷ xs) y e is = found_step P p x y (find p xs) (p x) refl e.0 (each_found P p xs y e.1) is

missed_step : {X : Type 0} (p : X → Bool) (x : X) (o : Option X) (b : Bool) → p x ≡ b → cond b (Some x) o ≡ None → (p x ≡ false) × (o ≡ None)
missed_step p x o true is e = absurd cc
missed_step p x o false is e = (is, e)

pub each_missed : {X : Type 0} (p : X → Bool) (xs : List X) → find p xs ≡ None → Each (λ x. p x ≡ false) xs
each_missed p [] is = tt
each_missed p (x ∷ xs) is = let both = missed_step p x (find p xs) (p x) refl is in (both.0, each_missed p xs both.1)

-- ---- the content with 0 in bound slots
pub placements_bared : (k : ℕ) (bs : List Binding) (images : List SpaceImage) → map placement_of (unbound_images k bs images) ≡ map placement_of images
placements_bared k bs [] = refl
placements_bared k bs (image ∷ images) = ap (λ (ps : List Placement). placement_of image ∷ ps) (placements_bared (k + 1) bs images)

holder_bared : (bs : List Binding) (images : List SpaceImage) (a : ℕ) → holder_from 0 (unbound_images 0 bs images) a ≡ holder_from 0 images a
holder_bared bs images a = ap (λ (ps : List Placement). placed_from 0 ps a) (placements_bared 0 bs images)

module _ (c : Content) (fields_and_slots : FieldsAndSlotsApart c) (whole : (j : ℕ) → length (nth_image c.images j).plain ≡ (nth_image c.images j).size) (i : ℕ) (lt : i < length c.images) where
  abbrev own : SpaceImage
  own = nth_image c.images i

  abbrev bare_plain : List ℕ
  bare_plain = without_slots (0 + i) (slot_width (nth_image c.images i).magic) c.bindings (nth_image c.images i).plain

  bare_is : nth_image (unbound c).images i ≡ record (nth_image c.images i) { plain = bare_plain }
  bare_is = image_bared 0 c.bindings c.images i lt

  free : (q : ℕ) → Each (λ (b : Binding). b.image ≡ i → Apart b.slot (width_in c.images b) q 1) c.bindings → get_or bare_plain q 0 ≡ get_or own.plain q 0
  free q apart = bare_same (0 + i) (slot_width own.magic) q c.bindings own.plain
      (each_map _ _ c.bindings (λ b both same. (let here : b.image ≡ i = omega arith in
      let w : width_in c.images b ≡ slot_width own.magic = ap (λ (j : ℕ). slot_width (nth_image c.images j).magic) here in (
        (let inside = both.1.inside in let size : (nth_image c.images b.image).size ≡ own.size = ap (λ (j : ℕ). (nth_image c.images j).size) here in let all = whole i in omega arith),
        elim (both.0 here) [ inl before ↦ inr (omega arith) | inr after ↦ inl (omega arith) ],
      )))
      (each_both (λ (b : Binding). b.image ≡ i → Apart b.slot (width_in c.images b) q 1) (IsSlot c.images) c.bindings apart fields_and_slots.slots))

  -- outside all slots
  off_slots : (r : ℕ) → find (in_slot i own.magic r) c.bindings ≡ None → Each (λ (b : Binding). b.image ≡ i → Apart b.slot (width_in c.images b) r 1) c.bindings
  off_slots r none = each_map _ _ c.bindings (λ b missed same. elim (cases_in b.slot (width_in c.images b) r) [
    | inl inside ↦
        (let w : width_in c.images b ≡ slot_width own.magic = ap (λ (j : ℕ). slot_width (nth_image c.images j).magic) same in
        let low = inside.0 in
        let high = inside.1 in
        let hit = true-in_slot own.magic r b low (omega (arith, high, w)) in
        let here = ap (λ (j : ℕ). in_slot j own.magic r b) (sym same) ∙ hit in absurd cc)
    | inr (inl below) ↦ inr (omega arith)
    | inr (inr above) ↦ inl above
  ]) (each_missed (in_slot i own.magic r) c.bindings none)

  off_field : (f : Fixup) (q : ℕ) → Each (λ (b : Binding). b.image ≡ i → Apart b.slot (width_in c.images b) f.field (width_of f.kind)) c.bindings → q < width_of f.kind
      → get_or bare_plain (f.field + q) 0 ≡ get_or own.plain (f.field + q) 0
  off_field f q apart small = free (f.field + q) (each_map _ _ c.bindings (λ b both same. elim (both same) [ inl before ↦ inl (omega arith) | inr after ↦ inr (omega arith) ]) apart)

  field_same : (r : ℕ) (o : Option Fixup) → find (in_field r) own.fixups ≡ o → find (in_slot i own.magic r) c.bindings ≡ None → fixed_byte (record own { plain = bare_plain }) r o ≡ fixed_byte own r o
  field_same r None is none = free r (off_slots r none)
  field_same r (Some f) is none =
      let apart : Each (λ (b : Binding). b.image ≡ i → Apart b.slot (width_in c.images b) f.field (width_of f.kind)) c.bindings =
      each_map (IsSlot c.images) (λ (b : Binding). b.image ≡ i → Apart b.slot (width_in c.images b) f.field (width_of f.kind)) c.bindings
      (λ b slot same. (each_found (λ (f : Fixup). Apart b.slot (width_in c.images b) f.field (width_of f.kind)) (in_field r) own.fixups f
      (subst (λ (j : ℕ). Each (λ (f : Fixup). Apart b.slot (width_in c.images b) f.field (width_of f.kind)) (nth_image c.images j).fixups) same slot.off_fields) is).0)
      fields_and_slots.slots in
      ap (λ (v : ℕ). digit (shift f.kind v (pos own.base -ℤ pos own.image_base)) (r - f.field))
      (same_number bare_plain own.plain f.field f.field (width_of f.kind) (λ q small. off_field f q apart small))

  slot_same : (r : ℕ) (o : Option Binding) → find (in_slot i own.magic r) c.bindings ≡ o → byte_by (unbound c) i r o ≡ byte_by c i r o
  slot_same r None is =
      ap (λ (m : SpaceImage). fixed_byte m r (find (in_field r) m.fixups)) bare_is
      ∙ field_same r (find (in_field r) own.fixups) refl is
  slot_same r (Some b) is =
      let slot : IsSlot c.images b = (each_found (IsSlot c.images) (in_slot i own.magic r) c.bindings b fields_and_slots.slots is).0 in
      ap (λ (m : SpaceImage). digit (m.base + b.rva) (r - b.slot)) (image_bared 0 c.bindings c.images b.exporter slot.exporter)

  pub byte_same : (r : ℕ) → byte_in (unbound c) i r ≡ byte_in c i r
  byte_same r =
      ap (λ (m : SpaceImage). byte_by (unbound c) i r (find (in_slot i m.magic r) c.bindings)) bare_is
      ∙ slot_same r (find (in_slot i own.magic r) c.bindings) refl

  pub base_same : (nth_image (unbound c).images i).base ≡ own.base
  base_same = ap (λ (m : SpaceImage). m.base) bare_is

-- the byte at each address is the same
pub address_same : (c : Content) (a : ℕ) → FieldsAndSlotsApart c → ((j : ℕ) → length (nth_image c.images j).plain ≡ (nth_image c.images j).size) → byte_at (unbound c) a ≡ byte_at c a
address_same c a fields_and_slots whole =
    ap (byte_held (unbound c) a) (holder_bared c.bindings c.images a) ∙ by_holder (holder_from 0 c.images a) refl
  where
    by_holder : (o : Option ℕ) → holder_from 0 c.images a ≡ o → byte_held (unbound c) a o ≡ byte_held c a o
    by_holder None is = refl
    by_holder (Some j) is =
        let inside = holder_inside 0 c.images a j is in
        let same = inside.1 in
        let below = inside.2.0 in
        let lt : j < length c.images = omega (arith, same, below) in
        ap (λ (b : ℕ). Some (byte_in (unbound c) j (a - b))) (base_same c fields_and_slots whole j lt)
        ∙ ap (λ (n : ℕ). Some n) (byte_same c fields_and_slots whole j lt (a - (nth_image c.images j).base))

-- the bytes in each window are the same
pub bytes_same : (c : Content) (n a : ℕ) → FieldsAndSlotsApart c → ((j : ℕ) → length (nth_image c.images j).plain ≡ (nth_image c.images j).size) → bytes_from (unbound c) a n ≡ bytes_from c a n
bytes_same c zero a fields_and_slots whole = refl
bytes_same c (suc n) a fields_and_slots whole =
    ap (λ (o : Option ℕ). unwrap_or o 0 ∷ bytes_from (unbound c) (a + 1) n) (address_same c a fields_and_slots whole)
    ∙ ap (λ (xs : List ℕ). unwrap_or (byte_at c a) 0 ∷ xs) (bytes_same c n (a + 1) fields_and_slots whole)

-- outside images
pub byte_nowhere : (c : Content) (a : ℕ) → holder_from 0 c.images a ≡ None → byte_at (unbound c) a ≡ None
byte_nowhere c a none = ap (byte_held (unbound c) a) (holder_bared c.bindings c.images a ∙ none)

-- the bytes of a window, by where it is
pub window_told : (c : Content) (a n : ℕ) (o : Result ℕ Fault) → (n == 0) ≡ false → window_image (map placement_of c.images) a n ≡ o → window_at (unbound c) a n ≡ window_in (unbound c) a n o
window_told c a n o some is =
    ap (λ (b : Bool). cond b (Ok []) (window_in (unbound c) a n (window_image (map placement_of (unbound c).images) a n))) some
    ∙ ap (window_in (unbound c) a n) (ap (λ (ps : List Placement). window_image ps a n) (placements_bared 0 c.bindings c.images) ∙ is)

-- ---- the files as they are laid out
pub plain_at : (i : layout.LaidOut) (r : ℕ) → r < i.size → get_or (layout.bytes_at i 0 i.size) r 0 ≡ i.byte r
plain_at i r lt = get_or-map-range_with_len i.byte 0 i.size r r 0 lt (omega arith)

pub number_plain : (i : layout.LaidOut) (place w : ℕ) → place + w ≤ i.size → number_in (layout.bytes_at i 0 i.size) place w ≡ num i.byte place w
number_plain i place zero le = refl
number_plain i place (suc w) le =
    ap (λ (n : ℕ). n + 256 * number_in (layout.bytes_at i 0 i.size) (place + 1) w) (plain_at i place (omega arith))
    ∙ ap (λ (n : ℕ). i.byte place + 256 * n) (number_plain i (place + 1) w (omega arith))

base_got : (s : List Module) (j : ℕ) → (nth_image (map image_content s) j).base ≡ option_map_or (λ (m : Module). m.base) (slice_get s j) 0
base_got [] j = refl
base_got (m ∷ s) zero = refl
base_got (m ∷ s) (suc j) = base_got s j

abbrev AreInside : Module → Type 0
AreInside m = Each (λ (f : Fixup). f.field + width_of f.kind ≤ m.image.size) m.fixups

fixed_is : (m : Module) (r : ℕ) (o : Option Fixup) → AreInside m → find (in_field r) m.fixups ≡ o → r < m.image.size → fixed_byte (image_content m) r o ≡ relocated_by m.image m.base r o
fixed_is m r None inside is lt = plain_at m.image r lt
fixed_is m r (Some f) inside is lt =
    ap (λ (v : ℕ). digit (shift f.kind v (pos m.base -ℤ pos m.image.image_base)) (r - f.field))
    (number_plain m.image f.field (width_of f.kind) (each_found (λ (f : Fixup). f.field + width_of f.kind ≤ m.image.size) (in_field r) m.fixups f inside is).0)

module _ (s : List Module) (inside : (j : ℕ) (m : Module) → slice_get s j ≡ Some m → AreInside m) where
  abbrev c : Content
  c = record { images = map image_content s; bindings = bindings_of s }

  by_slot : (n : ℕ) (m : Module) (r : ℕ) (o : Option Binding) → slice_get s n ≡ Some m → r < m.image.size → byte_by c n r o ≡ byte_of_image s m r o
  by_slot n m r None at lt =
      ap (λ (g : SpaceImage). fixed_byte g r (find (in_field r) g.fixups)) (image_got s n m at)
      ∙ fixed_is m r (find (in_field r) m.fixups) (inside n m at) refl lt
  by_slot n m r (Some b) at lt = ap (λ (v : ℕ). digit (v + b.rva) (r - b.slot)) (base_got s b.exporter)

  in_image : (n : ℕ) (m : Module) (r : ℕ) → slice_get s n ≡ Some m → r < m.image.size → byte_in c n r ≡ byte_in_image s n r m
  in_image n m r at lt =
      ap (λ (g : SpaceImage). byte_by c n r (find (in_slot n g.magic r) (bindings_of s))) (image_got s n m at)
      ∙ by_slot n m r (find (in_slot n m.magic r) (bindings_of s)) at lt

  at_step : (n : ℕ) (m : Module) (a : ℕ) (o p : Option ℕ) (b : Bool) → slice_get s n ≡ Some m → is_in m.base m.image.size a ≡ b → byte_held c a o ≡ p
      → byte_held c a (cond b (Some n) o) ≡ cond b (Some (byte_in_image s n (a - m.base) m)) p
  at_step n m a o p true at is later =
      let both = is_in-true m.base m.image.size a is in
      let low = both.0 in
      let high = both.1 in
      ap (λ (g : SpaceImage). Some (byte_in c n (a - g.base))) (image_got s n m at)
      ∙ ap (λ (v : ℕ). Some v) (in_image n m (a - m.base) at (omega (arith, low, high)))
  at_step n m a o p false at is later = later

  at_from : (n : ℕ) (t : List Module) (a : ℕ) → ((i : ℕ) (m : Module) → slice_get t i ≡ Some m → slice_get s (n + i) ≡ Some m) → byte_held c a (holder_from n (map image_content t) a) ≡ defined_from s n t a
  at_from n [] a tail = refl
  at_from n (m ∷ t) a tail =
      let here : n + zero ≡ n = omega arith in
      let at : slice_get s n ≡ Some m = subst (λ (k : ℕ). slice_get s k ≡ Some m) here (tail zero m refl) in
      let next : (i : ℕ) (q : Module) → slice_get t i ≡ Some q → slice_get s (n + 1 + i) ≡ Some q = (λ i q got. let there : n + suc i ≡ n + 1 + i = omega arith in subst (λ (k : ℕ). slice_get s k ≡ Some q) there (tail (suc i) q got)) in
      at_step n m a (holder_from (n + 1) (map image_content t) a) (defined_from s (n + 1) t a) (is_in m.base m.image.size a) at refl (at_from (n + 1) t a next)

  -- the files as they are laid out have at each address the byte that the set defines
  pub laid_defined : (a : ℕ) → byte_at (laid_out s) a ≡ defined_byte s a
  unfolding laid_out defined_byte
  laid_defined a = at_from 0 s a (λ i m at. let here : 0 + i ≡ i = omega arith in subst (λ (k : ℕ). slice_get s k ≡ Some m) (sym here) at)

-- which image contains the bytes
pub image_told : (c s : Content) (a n : ℕ) (o : Result ℕ Fault) → unbound c ≡ s → o ≡ image_at s a n → window_image (map placement_of c.images) a n ≡ o
image_told c s a n o view is =
    ap (λ (ps : List Placement). window_image ps a n) (sym (placements_bared 0 c.bindings c.images)) ∙ ap (λ (x : Content). image_at x a n) view ∙ sym is

-- a window that no image contains
pub window_refused : (s : Content) (a n : ℕ) (fault : Fault) → (n == 0) ≡ false → Err fault ≡ image_at s a n → window_at s a n ≡ Err fault
window_refused s a n fault some is =
    ap (λ (b : Bool). cond b (Ok []) (window_in s a n (image_at s a n))) some ∙ ap (window_in s a n) (sym is)
