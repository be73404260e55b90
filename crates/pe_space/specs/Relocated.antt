-- Images in memory, before their slots are bound. No contract of a public function uses this module.
use Rattle.std.specs.Prelude.{◌+◌, ◌<◌, ◌≤◌, ◌^◌, length}
use Rattle.pe_layout.specs.Image.{bytes_at}
use Rattle.pe_tables.specs.Fixups.{width_of}
use Rattle.pe_set.specs.Set.{Module}
use Rattle.pe_space.specs.InMemory.{InMemory, relocated_image}
use Rattle.pe_space.specs.FieldsAndSlots.{Each}

abbrev pub relocated_of : Module → InMemory
relocated_of m = relocated_image m.base m.magic m.image.image_base m.image.is_stripped m.fixups (bytes_at m.image 0 m.image.size)

-- the fields are inside the image, and their number fits into 32 bits
pub record FieldsFit (m : Module) : Type 0 where
  pub inside : Each (λ f. f.field + width_of f.kind ≤ m.image.size) m.fixups
  pub few : length m.fixups < 2 ^ 32
