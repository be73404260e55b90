-- The faults of an object file of either form, in order: its header, the symbol table, each section, each symbol, each relocation. At
-- the plain form these are the tests of ObjectFaults.
use Rattle.std.specs.Prelude.{◌≡◌, ℕ, ◌+◌, ◌^◌, ◌==◌, ◌&&◌, ◌||◌, Bool, true, false, not, nat_lt, nat_le, List, [], ◌∷◌, ◌++◌, length, map, bit_and, is_none, None}
use Rattle.std.specs.List.{flat_map, range_with_len}
use Rattle.std.specs.Str.{bytes_eq}
use Rattle.pe_view.specs.Faults.{Test, first_standing}
use Rattle.pe_view.specs.Number.{part}
use Rattle.coff_read.specs.Field.{field}
use Rattle.coff_read.specs.Forms.{Form, header_len, sections_at, symbols_at, section_count, debug_number}
use Rattle.coff_read.specs.FormReading.{symbol_pointer, record_count, strings_start, strings_size, section_name, symbol_name, section_start, section_starts, record_start, aux_count, number_in, symbol_indexes, object_of}
use Rattle.coff_read.specs.ObjectFaults.{at_offset, is_other_file, is_cut_table}
use Rattle.coff_read.specs.Reading.{relocation_start, is_absent}
use Rattle.coff_read.specs.Records.{Object}

-- the class of big objects, {D1BAA1C7-BAEE-4BA9-AF20-FAF66AA4DCB8}, as a file has it
abbrev pub big_class : List ℕ
big_class = 0xc7 ∷ 0xa1 ∷ 0xba ∷ 0xd1 ∷ 0xee ∷ 0xba ∷ 0xa9 ∷ 0x4b ∷ 0xaf ∷ 0x20 ∷ 0xfa ∷ 0xf6 ∷ 0x6a ∷ 0xa4 ∷ 0xdc ∷ 0xb8 ∷ []

-- the first fields are those of a header that begins with Machine 0 and 0xffff sections
abbrev pub is_anonymous : List ℕ → Bool
is_anonymous file = field file 0 0 2 == 0 && field file 0 2 2 == 0xffff

-- the file is of another kind or of another form. A header that begins with Machine 0 and 0xffff sections is another's by its Version
-- or its class: Version 0 has an import object, Version 1 an object without a form of its own.
abbrev pub kind_tests : Form → List ℕ → List Test
kind_tests false file = at_offset 62 0 (is_other_file file) ∷ []
kind_tests true file =
    at_offset 62 0 (not (is_anonymous file))
    ∷ at_offset 62 4 (nat_lt (field file 0 4 2) 2)
    ∷ at_offset 62 12 (not (bytes_eq (part file 12 16) big_class))
    ∷ []

abbrev pub size_tests : Form → List ℕ → List Test
size_tests big file = at_offset 61 (length file) (nat_lt (length file) (header_len big) || nat_lt (2 ^ 32) (length file)) ∷ []

abbrev pub section_table_tests : Form → List ℕ → List Test
section_table_tests big file = at_offset 63 (sections_at big) (nat_lt (length file) (section_start big file (section_count big file))) ∷ []

abbrev pub header_tests : Form → List ℕ → List Test
header_tests big file = size_tests big file ++ (kind_tests big file ++ section_table_tests big file)

abbrev pub symbol_table_tests : Form → List ℕ → List Test
symbol_table_tests big file =
    at_offset 67 (symbols_at big) (not (symbol_pointer big file == 0) && nat_lt (length file) (strings_start big file))
    ∷ at_offset 68 (strings_start big file) (not (symbol_pointer big file == 0) && is_cut_table (length file) (strings_start big file) (strings_size big file))
    ∷ []

-- of the section whose header is at h
abbrev pub section_tests : Form → List ℕ → ℕ → List Test
section_tests big file h =
    at_offset 64 h (not (is_absent (field file h 20 4) (field file h 16 4) (field file h 36 4)) && nat_lt (length file) (field file h 20 4 + field file h 16 4))
    ∷ at_offset 65 h (not (bit_and (field file h 36 4) 0x0100_0000 == 0) && field file h 32 2 == 0xffff)
    ∷ at_offset 66 h (not (field file h 32 2 == 0) && nat_lt (length file) (relocation_start file h (field file h 32 2)))
    ∷ at_offset 69 h (is_none (section_name big file h))
    ∷ []

-- of the symbol of record k
abbrev pub symbol_tests : Form → List ℕ → ℕ → List Test
symbol_tests big file k =
    at_offset 69 (record_start big file k) (is_none (symbol_name big file (record_start big file k)))
    ∷ at_offset 70 (record_start big file k) (nat_lt (record_count big file) (k + 1 + aux_count big file k))
    ∷ at_offset 71 (record_start big file k) (nat_lt (section_count big file) (number_in big file (record_start big file k)) && nat_lt (number_in big file (record_start big file k)) (debug_number big))
    ∷ []

-- of the relocation at a file offset
abbrev pub relocation_test : Form → List ℕ → ℕ → Test
relocation_test big file at = at_offset 72 at (nat_le (record_count big file) (field file at 4 4))

-- of the relocations of the section whose header is at h
abbrev pub relocation_tests : Form → List ℕ → ℕ → List Test
relocation_tests big file h = map (λ k. relocation_test big file (relocation_start file h k)) (range_with_len 0 (field file h 32 2))

-- of the sections, the symbols and the relocations
unfoldable pub record_tests : Form → List ℕ → List Test
record_tests big file =
    flat_map (section_tests big file) (section_starts big file)
    ++ (flat_map (symbol_tests big file) (symbol_indexes big file) ++ flat_map (relocation_tests big file) (section_starts big file))

-- faults 61 to 72
unfoldable pub object_tests : Form → List ℕ → List Test
object_tests big file = header_tests big file ++ (symbol_table_tests big file ++ record_tests big file)

-- a file is an object's: it has none of the faults, and its contents are the object
pub record IsObjectOf (big : Form) (file : List ℕ) (o : Object) : Type 0 where
  pub accepted : first_standing (object_tests big file) ≡ None
  pub holds : object_of big file ≡ o
