-- The faults of an object file, in order: its header, the symbol table, each section, each symbol, each relocation.
use Rattle.std.specs.Prelude.{◌≡◌, ℕ, ◌+◌, ◌^◌, ◌==◌, ◌&&◌, ◌||◌, Bool, not, nat_lt, nat_le, List, [], ◌∷◌, ◌++◌, length, map, bit_and, is_none, None}
use Rattle.std.specs.List.{flat_map, range_with_len}
use Rattle.pe_view.specs.declared.fault.Place.TheVariants.{File}
use Rattle.pe_view.specs.Faults.{Test, test, first_standing}
use Rattle.coff_read.specs.Field.{field}
use Rattle.coff_read.specs.Names.{section_name, symbol_name}
use Rattle.coff_read.specs.Reading.{section_start, section_starts, relocation_start, is_absent, record_start, aux_count, symbol_indexes, object_of}
use Rattle.coff_read.specs.Records.{Object}
use Rattle.coff_read.specs.Strings.{symbol_pointer, record_count, strings_start, strings_size, size_field}

-- a row of the table: a number, a file offset, and the condition
abbrev pub at_offset : ℕ → ℕ → Bool → Test
at_offset number offset stands = test number 0 (File offset) stands

-- the first bytes are those of a file of another kind: `MZ` of an image, `!<arch>` and a line end of an archive, or Machine 0 and
-- 0xffff sections, which begin a header of another form
abbrev pub is_other_header : ℕ → ℕ → ℕ → Bool
is_other_header machine sections time_stamp =
    machine == 0x5a4d
    || ((machine == 0x3c21 && (sections == 0x7261 && time_stamp == 0x0a3e6863)) || (machine == 0 && sections == 0xffff))

abbrev pub is_other_file : List ℕ → Bool
is_other_file file = is_other_header (field file 0 0 2) (field file 0 2 2) (field file 0 4 4)

abbrev pub header_tests : List ℕ → List Test
header_tests file =
    at_offset 61 (length file) (nat_lt (length file) 20 || nat_lt (2 ^ 32) (length file))
    ∷ at_offset 62 0 (is_other_file file)
    ∷ at_offset 63 2 (nat_lt (length file) (section_start file (field file 0 2 2)))
    ∷ []

-- the string table, which begins at q, is neither missing nor whole
abbrev pub is_cut_table : ℕ → ℕ → ℕ → Bool
is_cut_table n q size = nat_lt q n && (nat_lt n (q + 4) || ((nat_lt 0 size && nat_lt size 4) || nat_lt n (q + size)))

abbrev pub string_table_tests : List ℕ → ℕ → List Test
string_table_tests file q = at_offset 68 q (is_cut_table (length file) q (size_field file q)) ∷ []

abbrev pub symbol_table_tests : List ℕ → List Test
symbol_table_tests file =
    at_offset 67 8 (not (symbol_pointer file == 0) && nat_lt (length file) (strings_start file))
    ∷ at_offset 68 (strings_start file) (not (symbol_pointer file == 0) && is_cut_table (length file) (strings_start file) (strings_size file))
    ∷ []

-- of the section whose header is at h
abbrev pub section_tests : List ℕ → ℕ → List Test
section_tests file h =
    at_offset 64 h (not (is_absent (field file h 20 4) (field file h 16 4) (field file h 36 4)) && nat_lt (length file) (field file h 20 4 + field file h 16 4))
    ∷ at_offset 65 h (not (bit_and (field file h 36 4) 0x0100_0000 == 0) && field file h 32 2 == 0xffff)
    ∷ at_offset 66 h (not (field file h 32 2 == 0) && nat_lt (length file) (relocation_start file h (field file h 32 2)))
    ∷ at_offset 69 h (is_none (section_name file h))
    ∷ []

-- of the symbol of record k
abbrev pub symbol_tests : List ℕ → ℕ → List Test
symbol_tests file k =
    at_offset 69 (record_start file k) (is_none (symbol_name file (record_start file k)))
    ∷ at_offset 70 (record_start file k) (nat_lt (record_count file) (k + 1 + aux_count file k))
    ∷ at_offset 71 (record_start file k) (nat_lt (field file 0 2 2) (field file (record_start file k) 12 2) && nat_lt (field file (record_start file k) 12 2) 0xfffe)
    ∷ []

-- of the relocation at a file offset
abbrev pub relocation_test : List ℕ → ℕ → Test
relocation_test file at = at_offset 72 at (nat_le (record_count file) (field file at 4 4))

-- of the relocations of the section whose header is at h
abbrev pub relocation_tests : List ℕ → ℕ → List Test
relocation_tests file h = map (λ k. relocation_test file (relocation_start file h k)) (range_with_len 0 (field file h 32 2))

-- of the sections, the symbols and the relocations
unfoldable pub record_tests : List ℕ → List Test
record_tests file =
    flat_map (section_tests file) (section_starts file)
    ++ (flat_map (symbol_tests file) (symbol_indexes file) ++ flat_map (relocation_tests file) (section_starts file))

-- faults 61 to 72
unfoldable pub object_tests : List ℕ → List Test
object_tests file = header_tests file ++ (symbol_table_tests file ++ record_tests file)

-- a file is an object's: it has none of the faults, and its contents are the object
pub record IsObjectOf (file : List ℕ) (o : Object) : Type 0 where
  pub accepted : first_standing (object_tests file) ≡ None
  pub holds : object_of file ≡ o
