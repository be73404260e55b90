-- Writes into the memory of images. No contract of a public function uses this module.
use Rattle.std.specs.Prelude.{ℕ, ◌+◌, ◌==◌, Bool, ℤ, List, [], ◌∷◌, slice_set, slice_index_or}
use Rattle.pe_tables.specs.Patch.{shifted_at}
pub use Rattle.pe_tables.specs.Patch.{bytes}
unfoldable pub use Rattle.pe_tables.specs.Patch.{patch}
use Rattle.pe_tables.specs.declared.fixups.Fixup.{Fixup}
use Rattle.pe_set.specs.declared.binding.Binding.{Binding}
use Rattle.pe_space.specs.Content.{SpaceImage, nth_image, slot_width}

-- the memory with one field relocated
abbrev pub with_shifted : ℤ → Fixup → List ℕ → List ℕ
with_shifted d f xs = shifted_at d f.kind f.field xs

abbrev pub shifted_all : ℤ → List Fixup → List ℕ → List ℕ
shifted_all d [] xs = xs
shifted_all d (f ∷ fs) xs = shifted_all d fs (with_shifted d f xs)

-- the memory of image j
abbrev pub memory_of : List (List ℕ) → ℕ → List ℕ
memory_of ms j = slice_index_or ms j []

-- the memories with an address in one slot
unfoldable pub put_slot : List SpaceImage → Binding → ℕ → List (List ℕ) → List (List ℕ)
put_slot images b address ms = slice_set ms b.image (patch (memory_of ms b.image) b.slot (bytes (slot_width (nth_image images b.image).magic) address))

-- the address of the export of a binding
abbrev pub address_of : List SpaceImage → Binding → ℕ
address_of images b = (nth_image images b.exporter).base + b.rva

-- the memories with the address of its export in each of these slots
abbrev pub bound : List SpaceImage → List Binding → List (List ℕ) → List (List ℕ)
bound images [] ms = ms
bound images (b ∷ bs) ms = bound images bs (put_slot images b (address_of images b) ms)

-- whether a slot is bound to an export of image i
abbrev pub ends_in : ℕ → Binding → Bool
ends_in i b = b.exporter == i
