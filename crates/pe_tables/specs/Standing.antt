-- The bytes of a table that is in an image, and a fixup without the RVA of its entry.
use Rattle.std.specs.Prelude.{◌≡◌, ◌⊎◌, ℕ, ◌+◌, ◌^◌, ◌<◌, All, List, length, slice_index_or}
use Rattle.pe_head.specs.declared.directory.Directory.{Directory}
use Rattle.pe_layout.specs.Image.{LaidOut}
use Rattle.pe_tables.specs.Encoded.{encoded}
use Rattle.pe_tables.specs.declared.fixups.Fixup.{Fixup}
use Rattle.pe_tables.specs.declared.fixups.FixupKind.{FixupKind}

-- these bytes are in the image at an RVA
abbrev pub StandsAt : LaidOut → ℕ → List ℕ → Type 0
StandsAt i rva bytes = (k : ℕ) → k < length bytes → i.byte (rva + k) ≡ slice_index_or bytes k 0

-- what a fixup relocates
abbrev pub view : Fixup → ℕ × FixupKind
view f = (f.field, f.kind)

-- the encoded table of these fixups is in the image as a whole directory
pub record StandsWhole (i : LaidOut) (d : Directory) (fixups : List Fixup) : Type 0 where
  pub fields : All (λ (f : Fixup). f.field < 2 ^ 32) fixups
  pub bytes : StandsAt i d.rva (encoded fixups)
  pub size : d.size ≡ length (encoded fixups)
  pub small : d.size < 2 ^ 32

-- the numbers of the faults that an encoded table in an image may have: that it passes the image, or that a field does, or meets an
-- earlier one or a slot
abbrev pub IsFieldFault : ℕ → Type 0
IsFieldFault number = (number ≡ 34) ⊎ ((number ≡ 36) ⊎ ((number ≡ 37) ⊎ (number ≡ 38)))
