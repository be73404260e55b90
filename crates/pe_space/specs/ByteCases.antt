-- What a byte of an image of a set belongs to: a bound slot, a field, or neither.
use Rattle.std.specs.Prelude.{◌≡◌, ◌+◌, ◌<◌, ◌≤◌, ◌⊎◌, ℕ, List, Some, Contains, slice_get}
use Rattle.pe_layout.specs.Image.{slot_width_of}
use Rattle.pe_tables.specs.Fixups.{width_of}
use Rattle.pe_tables.specs.declared.fixups.Fixup.{Fixup}
use Rattle.pe_set.specs.Bindings.{bindings_of}
use Rattle.pe_set.specs.Set.{Module}
use Rattle.pe_set.specs.declared.binding.Binding.{Binding}

-- image i of a set, m, has a byte at an RVA
pub record HasByte (s : List Module) (i : ℕ) (m : Module) (r : ℕ) : Type 0 where
  pub image : slice_get s i ≡ Some m
  pub inside : r < m.image.size

-- byte k of a bound slot is at this RVA of image i
pub record InBoundSlot (s : List Module) (i : ℕ) (m : Module) (r : ℕ) (b : Binding) (k : ℕ) : Type 0 where
  pub bound : Contains (bindings_of s) b
  pub image : b.image ≡ i
  pub small : k < slot_width_of m.magic
  pub place : r ≡ b.slot + k

-- byte k of a fixup's field is at this RVA of an image
pub record InFixup (m : Module) (r : ℕ) (f : Fixup) (k : ℕ) : Type 0 where
  pub fixup : Contains m.fixups f
  pub small : k < width_of f.kind
  pub place : r ≡ f.field + k

-- no image of a set contains an address
abbrev pub IsOutside : List Module → ℕ → Type 0
IsOutside s a = (i : ℕ) (m : Module) → slice_get s i ≡ Some m → (a < m.base) ⊎ (m.base + m.image.size ≤ a)
