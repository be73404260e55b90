-- The symbols of an image ("PE Format": COFF Symbol Table, COFF String Table): those whose records its file holds.
use Rattle.std.specs.Prelude.{ℕ, ◌+◌, ◌-◌, ◌*◌, ◌/◌, ◌==◌, List, [], ◌∷◌, length, suc, zero, Option, None, Some, min, if◌then◌else◌}
use Rattle.std.specs.Option.{unwrap_or}
use Rattle.pe_view.specs.Number.{part}
use Rattle.pe_head.specs.declared.headers.Headers.{Headers}
use Rattle.coff_read.specs.Field.{field}
use Rattle.coff_read.specs.ImageNames.{image_strings, long_name}
use Rattle.coff_read.specs.Names.{up_to_zero}
use Rattle.coff_read.specs.Reading.{section_of_number}
use Rattle.coff_read.specs.Records.{Symbol}

-- how many records of the symbol table the file holds
abbrev pub records_held : List ℕ → Headers → ℕ
records_held file h =
    if h.pointer_to_symbol_table == 0 then 0 else min h.number_of_symbols ((length file - h.pointer_to_symbol_table) / 18)

-- the name of the symbol whose record is at a file offset, where the image has this string table or none; none if it leads nowhere
abbrev pub image_symbol_name : List ℕ → Option (List ℕ) → ℕ → Option (List ℕ)
image_symbol_name file strings at =
    if field file at 0 4 == 0
    then (if field file at 4 4 == 0 then Some [] else long_name strings (Some (field file at 4 4)))
    else Some (up_to_zero (part file at 8))

-- the symbol whose record is at a file offset, where the file holds so many records after it: further auxiliary records are not there
abbrev pub image_symbol_at : List ℕ → Option (List ℕ) → ℕ → ℕ → Symbol
image_symbol_at file strings at left = record {
  name = unwrap_or (image_symbol_name file strings at) [];
  value = field file at 8 4;
  section = section_of_number (field file at 12 2);
  kind = field file at 14 2;
  class = field file at 16 1;
  aux = part file (at + 18) (18 * min (field file at 17 1) left);
}

-- the symbols of the records from k on, `left` of them, where the next `skip` records are auxiliary; each with its record's index
abbrev pub image_symbols_from : List ℕ → Option (List ℕ) → ℕ → ℕ → ℕ → ℕ → List (ℕ × Symbol)
image_symbols_from file strings start k zero skip = []
image_symbols_from file strings start k (suc left) zero =
    (k, image_symbol_at file strings (start + 18 * k) left)
    ∷ image_symbols_from file strings start (k + 1) left (field file (start + 18 * k) 17 1)
image_symbols_from file strings start k (suc left) (suc skip) = image_symbols_from file strings start (k + 1) left skip

-- the symbols of an image
abbrev pub image_symbols : List ℕ → Headers → List (ℕ × Symbol)
image_symbols file h = image_symbols_from file (image_strings file h) h.pointer_to_symbol_table 0 (records_held file h) 0
