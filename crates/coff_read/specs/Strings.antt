-- The string table of an object ("PE Format", COFF String Table).
use Rattle.std.specs.Prelude.{ℕ, Bool, ◌+◌, ◌*◌, ◌==◌, List, [], ◌∷◌, ◌++◌, length, Option, None, nat_le, nat_lt, if◌then◌else◌}
use Rattle.std.specs.List.{flat_map, list_any}
use Rattle.std.specs.Str.{bytes_eq}
use Rattle.coff_read.specs.Field.{field}
use Rattle.pe_view.specs.Text.{text_between}

-- where the symbol table begins, and how many records it has: none if PointerToSymbolTable is 0
abbrev pub symbol_pointer : List ℕ → ℕ
symbol_pointer file = field file 0 8 4

abbrev pub record_count : List ℕ → ℕ
record_count file = if symbol_pointer file == 0 then 0 else field file 0 12 4

-- where the string table begins: after the symbols
abbrev pub strings_start : List ℕ → ℕ
strings_start file = symbol_pointer file + 18 * record_count file

-- the size field of a string table at a file offset: 0 if it is missing at the end of the file
abbrev pub size_field : List ℕ → ℕ → ℕ
size_field file start = if nat_le (start + 4) (length file) then field file start 0 4 else 0

-- the size of the string table in bytes, its size field counted: 0 if PointerToSymbolTable is 0
abbrev pub strings_size : List ℕ → ℕ
strings_size file = if symbol_pointer file == 0 then 0 else size_field file (strings_start file)

-- the string at an offset of the string table
abbrev pub string_at : List ℕ → ℕ → Option (List ℕ)
string_at file offset =
    if nat_lt offset 4 then None
    else text_between file (strings_start file + offset) (strings_start file + strings_size file)

-- a string is one of a list
abbrev pub is_among : List ℕ → List (List ℕ) → Bool
is_among text texts = list_any (bytes_eq text) texts

-- a string after those of a table, unless it is one of them
abbrev pub with_string : List (List ℕ) → List ℕ → List (List ℕ)
with_string table text = if is_among text table then table else table ++ text ∷ []

-- each string once, in order of first use, after those of a table
abbrev pub with_strings : List (List ℕ) → List (List ℕ) → List (List ℕ)
with_strings table [] = table
with_strings table (text ∷ texts) = with_strings (with_string table text) texts

-- the offset of a string, if the first of the strings is at an offset
abbrev pub offset_from : ℕ → List (List ℕ) → List ℕ → ℕ
offset_from at [] text = at
offset_from at (t ∷ table) text = if bytes_eq text t then at else offset_from (at + length t + 1) table text

abbrev pub offset_of : List (List ℕ) → List ℕ → ℕ
offset_of table text = offset_from 4 table text

-- the strings' bytes, each with its zero byte
abbrev pub string_bytes : List (List ℕ) → List ℕ
string_bytes table = flat_map (λ text. text ++ 0 ∷ []) table
