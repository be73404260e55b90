-- The relocations of an object of either form.
use Rattle.std.specs.Prelude.{ℕ, List}
use Rattle.std.specs.List.{flat_map}
use Rattle.coff_read.specs.FormReading.{object_of}
use Rattle.coff_read.specs.Forms.{Form}
use Rattle.coff_read.specs.declared.relocation.Relocation.{Relocation}

-- the relocations of all sections of a file's object, section by section
unfoldable pub relocations_of : Form → List ℕ → List Relocation
relocations_of big file = flat_map (λ s. s.relocations) (object_of big file).sections
