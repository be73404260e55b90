-- Structures of an image, with fields at offsets of their own. A structure has the fields that are whole in its bytes.
use Rattle.std.specs.Prelude.{ℕ, ◌+◌, ◌==◌, nat_lt, Bool, List, length, take, Option, None, Some, if◌then◌else◌}
use Rattle.pe_layout.specs.Image.{LaidOut}
use Rattle.pe_records.specs.Records.{number, raw_bytes}
use Rattle.pe_records.specs.declared.structure.Field.{Field}
use Rattle.pe_records.specs.declared.structure.Width.{Width}
use Rattle.pe_records.specs.declared.structure.Width.TheVariants.{Two, Four, Address}

-- so many bytes from an RVA on, or as many as the file holds in one run
abbrev pub structure_bytes : LaidOut → ℕ → ℕ → List ℕ
structure_bytes i rva size = take size (raw_bytes i rva)

-- the size of an address: in PE32+, and in PE32
abbrev pub address_width : Bool → ℕ
address_width is_plus = if is_plus then 8 else 4

-- the number in the `width` bytes at an offset, if they are inside
abbrev pub number_in : ℕ → List ℕ → ℕ → Option ℕ
number_in width bytes offset = if nat_lt (length bytes) (offset + width) then None else Some (number width bytes offset)

-- the size of a field, where an address has `address` bytes
abbrev pub width_of : ℕ → Width → ℕ
width_of address Two = 2
width_of address Four = 4
width_of address Address = address

abbrev pub offset_of : ℕ → Field → ℕ
offset_of address f = if address == 8 then f.1 else f.0

abbrev pub field_in : ℕ → List ℕ → Field → Option ℕ
field_in address bytes f = number_in (width_of address f.2) bytes (offset_of address f)

-- a field, by its offset in PE32, its offset in PE32+, and its size
abbrev pub field : ℕ → ℕ → Width → Field
field offset plus_offset width = (offset, plus_offset, width)
