-- What holds for the images of each accepted set, and for its bound slots.
use Rattle.std.specs.Prelude.{◌≡◌, ◌+◌, ◌%◌, ◌<◌, ◌≤◌, ◌^◌, ℕ, List, Some, All, AllPairs, length, slice_get}
use Rattle.pe_layout.specs.Image.{slot_width_of}
use Rattle.pe_tables.specs.Fixups.{width_of, range_of}
use Rattle.pe_ranges.specs.Ranges.{AreApart}
use Rattle.pe_tables.specs.declared.fixups.Fixup.{Fixup}
use Rattle.pe_set.specs.Bindings.{bindings_of}
use Rattle.pe_set.specs.Placement.{address_limit}
use Rattle.pe_set.specs.Set.{Module}
use Rattle.pe_set.specs.declared.binding.Binding.{Binding}

-- an image has bytes, and its fields lie in it, share no byte with one another, and are few
pub record IsSoundImage (m : Module) : Type 0 where
  pub some : 0 < m.image.size
  pub small : m.image.size ≤ 2 ^ 31
  pub inside : All (λ (f : Fixup). f.field + width_of f.kind ≤ m.image.size) m.fixups
  pub apart : AllPairs (λ (f g : Fixup). AreApart (range_of f) (range_of g)) m.fixups
  pub few : length m.fixups < 2 ^ 31

-- the bytes of a bound slot of an image
abbrev pub slot_of : Module → Binding → ℕ × ℕ
slot_of m b = (b.slot, slot_width_of m.magic)

-- a bound slot lies in an image and shares no byte with its fields, and its export lies in an image
pub record IsSoundBinding (s : List Module) (b : Binding) : Type 0 where
  pub importer : Module
  pub imports : slice_get s b.image ≡ Some importer
  pub inside : b.slot + slot_width_of importer.magic ≤ importer.image.size
  pub off_fields : All (λ (f : Fixup). AreApart (slot_of importer b) (range_of f)) importer.fixups
  pub exporter : Module
  pub exports : slice_get s b.exporter ≡ Some exporter
  pub target : b.rva < exporter.image.size

-- two bound slots of one image share no byte
abbrev pub SlotsApart : List Module → Binding → Binding → Type 0
SlotsApart s b other = (m : Module) → slice_get s b.image ≡ Some m → b.image ≡ other.image → AreApart (slot_of m b) (slot_of m other)

pub record IsSound (s : List Module) : Type 0 where
  pub few : length s ≤ 256
  pub images : All IsSoundImage s
  pub aligned : All (λ (m : Module). m.base % 65536 ≡ 0) s
  pub room : All (λ (m : Module). m.base + m.image.size ≤ address_limit m.magic) s
  pub apart : AllPairs (λ (m other : Module). AreApart (m.base, m.image.size) (other.base, other.image.size)) s
  pub slots : All (IsSoundBinding s) (bindings_of s)
  pub slots_apart : AllPairs (SlotsApart s) (bindings_of s)
  pub few_slots : length (bindings_of s) < 2 ^ 32
