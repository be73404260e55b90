-- The rules of an image's symbol table, in the order of its findings ("PE Format": COFF Symbol Table, COFF String Table).
use Rattle.std.specs.Prelude.{ℕ, ◌+◌, ◌*◌, ◌==◌, ◌&&◌, Bool, false, not, nat_lt, is_none, List, [], ◌∷◌, ◌++◌, length, if◌then◌else◌}
use Rattle.std.specs.List.{flat_map}
use Rattle.pe_view.specs.declared.fault.Place.TheVariants.{File}
use Rattle.pe_view.specs.Faults.{Test}
use Rattle.pe_view.specs.Standing.{tests_at}
use Rattle.pe_head.specs.declared.headers.Headers.{Headers}
use Rattle.coff_read.specs.Field.{field}
use Rattle.coff_read.specs.ImageNames.{strings_start, image_strings}
use Rattle.coff_read.specs.ImageSymbols.{image_symbols, records_held}
use Rattle.coff_read.specs.Records.{Symbol}
use Rattle.coff_read.specs.declared.symbol.SymbolSection.{SymbolSection}
use Rattle.coff_read.specs.declared.symbol.SymbolSection.TheVariants as belongs

-- the number of a symbol's section is that of none of so many
abbrev pub is_stray : ℕ → SymbolSection → Bool
is_stray sections belongs.Undefined = false
is_stray sections belongs.Absolute = false
is_stray sections belongs.Debug = false
is_stray sections (belongs.Section number) = nat_lt sections number

-- the file offset of a record
abbrev pub record_offset : Headers → ℕ → ℕ
record_offset h k = h.pointer_to_symbol_table + 18 * k

-- of the symbol whose record has an index: its section, and that it counts more auxiliary records than are behind its own
abbrev pub symbol_tests : ℕ → List ℕ → Headers → ℕ × Symbol → List Test
symbol_tests image file h s =
    tests_at image (File (record_offset h s.0))
    ((263, is_stray h.number_of_sections s.1.section) ∷ (264, nat_lt (records_held file h) (s.0 + 1 + field file (record_offset h s.0) 17 1)) ∷ [])

-- the file does not hold all records
abbrev pub is_cut : List ℕ → Headers → Bool
is_cut file h = nat_lt (length file) (strings_start h)

-- of the symbol table, of the string table behind it, and of each symbol
abbrev pub table_tests : ℕ → List ℕ → Headers → List Test
table_tests image file h =
    tests_at image (File h.pointer_to_symbol_table) ((261, is_cut file h) ∷ [])
    ++ (tests_at image (File (strings_start h)) ((262, not (is_cut file h) && is_none (image_strings file h)) ∷ [])
    ++ flat_map (symbol_tests image file h) (image_symbols file h))

-- of an image with a number; one without a symbol table has none
abbrev pub image_symbol_tests : ℕ → List ℕ → Headers → List Test
image_symbol_tests image file h = if h.pointer_to_symbol_table == 0 then [] else table_tests image file h
