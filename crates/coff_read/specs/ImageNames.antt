-- The names of an image's sections ("PE Format": Section Table, COFF String Table). A name that does not lead to a string of the
-- string table is the field itself.
use Rattle.std.specs.Prelude.{ℕ, ◌+◌, ◌*◌, ◌==◌, ◌&&◌, List, length, Option, None, Some, nat_le, nat_lt, if◌then◌else◌}
use Rattle.std.specs.Option.{unwrap_or}
use Rattle.pe_view.specs.Number.{num, byte_of, part}
use Rattle.pe_view.specs.Text.{text_between}
use Rattle.pe_head.specs.declared.headers.Headers.{Headers}
use Rattle.pe_view.specs.View.{bytes_of}
use Rattle.coff_read.specs.Names.{up_to_zero, name_offset}
use Rattle.coff_read.specs.declared.image_strings.ImageStrings.{ImageStrings}

-- where the string table of an image begins: after the symbols
abbrev pub strings_start : Headers → ℕ
strings_start h = h.pointer_to_symbol_table + 18 * h.number_of_symbols

-- its size, which counts the size field
abbrev pub strings_size : List ℕ → Headers → ℕ
strings_size file h = num (byte_of file) (strings_start h) 4

-- the string table, if the image has one that is inside the file
abbrev pub image_strings : List ℕ → Headers → Option (List ℕ)
image_strings file h =
    if h.pointer_to_symbol_table == 0 then None
    else (if nat_le (strings_start h + 4) (length file) && nat_le (strings_start h + strings_size file h) (length file)
    then Some (part file (strings_start h) (strings_size file h))
    else None)

-- the bytes of a string table
abbrev pub table_of : ImageStrings → List ℕ
table_of strings = bytes_of strings.table

-- the string at an offset of a string table, after its size field
abbrev pub text_in : List ℕ → ℕ → Option (List ℕ)
text_in table offset = if nat_lt offset 4 then None else text_between table offset (length table)

abbrev pub long_name : Option (List ℕ) → Option ℕ → Option (List ℕ)
long_name None offset = None
long_name (Some table) None = None
long_name (Some table) (Some offset) = text_in table offset

-- the name in a section's field, where the image has this string table or none
abbrev pub section_name : Option (List ℕ) → List ℕ → List ℕ
section_name table field = unwrap_or (long_name table (name_offset (up_to_zero field))) (up_to_zero field)
