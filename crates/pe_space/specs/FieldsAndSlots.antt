-- Facts about each accepted content, and about the memory that stores it. No contract of a public function uses this module.
use Rattle.std.specs.Prelude.{ℕ, ◌+◌, ◌≡◌, ◌<◌, ◌≤◌, ◌⊎◌, List, [], ◌∷◌, length, slice_index}
use Rattle.pe_tables.specs.declared.fixups.Fixup.{Fixup}
use Rattle.pe_set.specs.declared.binding.Binding.{Binding}
use Rattle.pe_space.specs.Content.{SpaceImage, Content, nth_image, width_of, slot_width, byte_in}
use Rattle.pe_space.specs.Memory.{memory_of}

-- two ranges are disjoint
abbrev pub Apart : ℕ → ℕ → ℕ → ℕ → Type 0
Apart a n b m = (a + n ≤ b) ⊎ (b + m ≤ a)

-- each element, and each pair in order, by recursion
abbrev pub Each : {X : Type 0} → (X → Type 0) → List X → Type 0
Each P [] = Unit {0}
Each P (x ∷ xs) = P x × Each P xs

abbrev pub EachPair : {X : Type 0} → (X → X → Type 0) → List X → Type 0
EachPair R [] = Unit {0}
EachPair R (x ∷ xs) = Each (R x) xs × EachPair R xs

abbrev pub FieldsApart : Fixup → Fixup → Type 0
FieldsApart f g = Apart f.field (width_of f.kind) g.field (width_of g.kind)

-- the fields are inside the image and disjoint
pub record IsImage (image : SpaceImage) : Type 0 where
  pub inside : Each (λ f. f.field + width_of f.kind ≤ image.size) image.fixups
  pub apart : EachPair FieldsApart image.fixups

-- the slot is inside its image, overlaps no field, and its export is inside an image
pub record IsSlot (images : List SpaceImage) (b : Binding) : Type 0 where
  pub image : b.image < length images
  pub inside : b.slot + slot_width (nth_image images b.image).magic ≤ (nth_image images b.image).size
  pub off_fields : Each (λ f. Apart b.slot (slot_width (nth_image images b.image).magic) f.field (width_of f.kind)) (nth_image images b.image).fixups
  pub exporter : b.exporter < length images
  pub target : b.rva < (nth_image images b.exporter).size

abbrev pub SlotsApart : List SpaceImage → Binding → Binding → Type 0
SlotsApart images b e = b.image ≡ e.image → Apart b.slot (slot_width (nth_image images b.image).magic) e.slot (slot_width (nth_image images b.image).magic)

-- fields and slots are inside their images and disjoint, at all bases
pub record FieldsAndSlotsApart (c : Content) : Type 0 where
  pub images : (j : ℕ) → IsImage (nth_image c.images j)
  pub slots : Each (IsSlot c.images) c.bindings
  pub apart : EachPair (SlotsApart c.images) c.bindings

-- the memories store the content
pub record MemoryHolds (c : Content) (ms : List (List ℕ)) : Type 0 where
  pub count : length ms ≡ length c.images
  pub lengths : (j : ℕ) → length (memory_of ms j) ≡ (nth_image c.images j).size
  pub each : (j r : ℕ) → r < (nth_image c.images j).size → slice_index (memory_of ms j) r ≡ byte_in c j r
