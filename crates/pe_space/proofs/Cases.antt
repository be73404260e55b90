-- The byte at an address, by what it belongs to.
use Rattle.std.proofs.Common.{◌≡◌, ◌∙◌, ◌+◌, ◌-◌, ◌<◌, ◌≤◌, ◌⊎◌, ℕ, suc, Bool, true, false, cond, List, [], ◌∷◌, length, map, Option, None, Some, refl, sym, ap, subst, arith, inl, inr}
use Rattle.std.specs.Prelude.{pos, ◌-ℤ◌, slice_get, Contains}
use Rattle.std.specs.List.{find}
use Rattle.std.proofs.lemmas.List.{length-map}
use Rattle.pe_layout.specs.Image.{slot_width_of}
use Rattle.pe_tables.specs.Fixups.{width_of}
use Rattle.pe_tables.specs.Relocated.{shifted}
use Rattle.pe_tables.specs.declared.fixups.Fixup.{Fixup}
use Rattle.pe_set.specs.Bindings.{bindings_of}
use Rattle.pe_set.specs.Set.{Module}
use Rattle.pe_set.specs.Sound.{IsSound}
use Rattle.pe_set.specs.declared.binding.Binding.{Binding}
use Rattle.pe_space.specs.ByteCases.{HasByte, InBoundSlot, InFixup, IsOutside}
use Rattle.pe_space.specs.Content.{SpaceImage, Content, nth_image, is_in, in_field, in_slot, fixed_byte, byte_by, byte_held, byte_in}
use Rattle.pe_space.specs.Number.{digit, number_in, shift}
use Rattle.pe_space.specs.SetContent.{image_content, laid_out, byte_in_image, defined_from, defined_byte}
use Rattle.pe_space.specs.FieldsAndSlots.{Each}
use Rattle.pe_space.proofs.Accepting.{fields_and_slots, placed, fields_inside}
use Rattle.pe_space.proofs.Addressing.{holder_is}
use Rattle.pe_space.proofs.Defining.{laid_defined, number_plain, plain_at}
use Rattle.pe_space.proofs.Lists.{each_at, none_found}
use Rattle.pe_space.proofs.Images.{image_got, got_below}
use Rattle.pe_space.proofs.Written.{width_in}
use Rattle.pe_space.proofs.SlotsAndFields.{slot_byte, field_byte, in_slot-true, is_in-true, true-is_in}

each_contains : {X : Type 0} (P : X → Type 0) (xs : List X) (x : X) → Each P xs → Contains xs x → P x
each_contains P xs x each in_xs = subst P in_xs.2 (each_at P xs in_xs.0 x each in_xs.1)

each_of_contains : {X : Type 0} (P : X → Type 0) (xs : List X) → ((x : X) → Contains xs x → P x) → Each P xs
each_of_contains P [] f = tt
each_of_contains P (x ∷ xs) f = (f x (0, omega arith, refl), each_of_contains P xs (λ y in_xs. f y (suc in_xs.0, (let lt = in_xs.1 in omega arith), in_xs.2)))

module _ (s : List Module) (sound : IsSound s) where
  abbrev c : Content
  c = record { images = map image_content s; bindings = bindings_of s }

  -- the byte at an address of an image is the one in its content
  here : (i r : ℕ) (m : Module) → HasByte s i m r → defined_byte s (m.base + r) ≡ Some (byte_in c i r)
  unfolding laid_out
  here i r m has =
      let image = image_got s i m has.image in
      let below = got_below s i m has.image in
      let count = length-map s image_content in
      let lt : i < length c.images = omega (arith, below, count) in
      let low : m.base ≤ m.base + r = omega arith in
      let high : m.base + r < m.base + m.image.size = (let inside = has.inside in omega (arith, inside)) in
      let holds : is_in (nth_image c.images i).base (nth_image c.images i).size (m.base + r) ≡ true =
      subst (λ (g : SpaceImage). is_in g.base g.size (m.base + r) ≡ true) (sym image) (true-is_in m.base m.image.size (m.base + r) low high) in
      let back : m.base + r - m.base ≡ r = omega arith in
      sym (laid_defined s (fields_inside s sound) (m.base + r))
      ∙ ap (byte_held c (m.base + r)) (holder_is c (m.base + r) i (placed s sound) (lt, holds))
      ∙ ap (λ (g : SpaceImage). Some (byte_in c i (m.base + r - g.base))) image
      ∙ ap (λ (k : ℕ). Some (byte_in c i k)) back

  pub in_slots : (i r k : ℕ) (m exporter : Module) (b : Binding) → HasByte s i m r → InBoundSlot s i m r b k → slice_get s b.exporter ≡ Some exporter
      → defined_byte s (m.base + r) ≡ Some (digit (exporter.base + b.rva) k)
  unfolding laid_out
  in_slots i r k m exporter b has at exports =
      let stands = each_contains (λ (b : Binding). (r : ℕ) → b.slot ≤ r → r < b.slot + width_in c.images b → byte_in c b.image r ≡ digit ((nth_image c.images b.exporter).base + b.rva) (r - b.slot))
      (bindings_of s) b (slot_byte c (fields_and_slots s sound)) at.bound in
      let place = at.place in
      let small = at.small in
      let width : width_in c.images b ≡ slot_width_of m.magic = ap (λ (j : ℕ). slot_width_of (nth_image c.images j).magic) at.image ∙ ap (λ (g : SpaceImage). slot_width_of g.magic) (image_got s i m has.image) in
      let back : r - b.slot ≡ k = omega (arith, place) in
      here i r m has
      ∙ ap (λ (v : ℕ). Some v) (ap (λ (j : ℕ). byte_in c j r) (sym at.image) ∙ stands r (omega (arith, place)) (omega (arith, place, small, width)))
      ∙ ap (λ (g : SpaceImage). Some (digit (g.base + b.rva) (r - b.slot))) (image_got s b.exporter exporter exports)
      ∙ ap (λ (j : ℕ). Some (digit (exporter.base + b.rva) j)) back

  pub in_fixups : (i r k : ℕ) (m : Module) (f : Fixup) → HasByte s i m r → InFixup m r f k → defined_byte s (m.base + r) ≡ Some (digit (shifted m.image m.base f) k)
  unfolding laid_out
  in_fixups i r k m f has at =
      let image = image_got s i m has.image in
      let listed : Contains (nth_image c.images i).fixups f = subst (λ (g : SpaceImage). Contains g.fixups f) (sym image) at.fixup in
      let place = at.place in
      let small = at.small in
      let back : r - f.field ≡ k = omega (arith, place) in
      let stands = each_contains _ (nth_image c.images i).fixups f (field_byte c i (fields_and_slots s sound)) listed r (omega (arith, place)) (omega (arith, place, small)) in
      let inside = each_contains (λ (f : Fixup). f.field + width_of f.kind ≤ m.image.size) m.fixups f (fields_inside s sound i m has.image) at.fixup in
      here i r m has ∙ ap (λ (v : ℕ). Some v) stands
      ∙ ap (λ (g : SpaceImage). Some (digit (shift f.kind (number_in g.plain f.field (width_of f.kind)) (pos g.base -ℤ pos g.image_base)) (r - f.field))) image
      ∙ ap (λ (v : ℕ). Some (digit (shift f.kind v (pos m.base -ℤ pos m.image.image_base)) (r - f.field))) (number_plain m.image f.field (width_of f.kind) inside)
      ∙ ap (λ (j : ℕ). Some (digit (shifted m.image m.base f) j)) back

  pub in_neither : (i r : ℕ) (m : Module) → HasByte s i m r → ((b : Binding) (k : ℕ) → InBoundSlot s i m r b k → ⊥) → ((f : Fixup) (k : ℕ) → InFixup m r f k → ⊥)
      → defined_byte s (m.base + r) ≡ Some (m.image.byte r)
  unfolding laid_out
  in_neither i r m has no_slot no_field =
      let image = image_got s i m has.image in
      let off_slots : find (in_slot i m.magic r) (bindings_of s) ≡ None = none_found (in_slot i m.magic r) (bindings_of s) (each_of_contains _ (bindings_of s) (λ b bound passes.
      let at = in_slot-true i m.magic r b passes in
      let low = at.1 in
      let high = at.2 in
      no_slot b (r - b.slot) (record { bound = bound; image = at.0; small = omega (arith, low, high); place = omega (arith, low) }))) in
      let off_fields : find (in_field r) m.fixups ≡ None = none_found (in_field r) m.fixups (each_of_contains _ m.fixups (λ f listed passes.
      let at = is_in-true f.field (width_of f.kind) r passes in
      let low = at.0 in
      let high = at.1 in
      no_field f (r - f.field) (record { fixup = listed; small = omega (arith, low, high); place = omega (arith, low) }))) in
      here i r m has
      ∙ ap (λ (g : SpaceImage). Some (byte_by c i r (find (in_slot i g.magic r) (bindings_of s)))) image
      ∙ ap (λ (o : Option Binding). Some (byte_by c i r o)) off_slots
      ∙ ap (λ (g : SpaceImage). Some (fixed_byte g r (find (in_field r) g.fixups))) image
      ∙ ap (λ (o : Option Fixup). Some (fixed_byte (image_content m) r o)) off_fields
      ∙ ap (λ (v : ℕ). Some v) (plain_at m.image r has.inside)

-- an address outside an image
not_in : (start n a : ℕ) → (a < start) ⊎ (start + n ≤ a) → (t : Bool) → is_in start n a ≡ t → t ≡ false
not_in start n a out false is = refl
not_in start n a (inl below) true is = let range = is_in-true start n a is in let low = range.0 in absurd (omega (arith, below, low))
not_in start n a (inr above) true is = let range = is_in-true start n a is in let high = range.1 in absurd (omega (arith, above, high))

none_from : (s : List Module) (n : ℕ) (t : List Module) (a : ℕ) → IsOutside t a → defined_from s n t a ≡ None
none_from s n [] a out = refl
none_from s n (m ∷ t) a out =
    ap (λ (b : Bool). cond b (Some (byte_in_image s n (a - m.base) m)) (defined_from s (n + 1) t a)) (not_in m.base m.image.size a (out 0 m refl) (is_in m.base m.image.size a) refl)
    ∙ none_from s (n + 1) t a (λ i q at. out (suc i) q at)

pub in_none : (s : List Module) (a : ℕ) → IsOutside s a → defined_byte s a ≡ None
unfolding defined_byte
in_none s a out = none_from s 0 s a out
