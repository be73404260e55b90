-- The one written form of an object: header, optional header, section table, each section's raw data and relocations, symbols,
-- string table, without a gap.
use Rattle.std.specs.Prelude.{ℕ, ◌+◌, ◌*◌, ◌==◌, Bool, List, [], ◌∷◌, ◌++◌, length, map, nat_lt, if◌then◌else◌, filter}
use Rattle.std.specs.List.{flat_map}
use Rattle.pe_numbers.specs.declared.number.Number.{Number}
use Rattle.pe_numbers.specs.declared.number.Number.TheVariants.{U8, U16, U32}
use Rattle.pe_numbers.specs.Numbers.{numbers_bytes}
use Rattle.coff_read.specs.Names.{decimal_digits, padded, is_long, is_long_section_name}
use Rattle.coff_read.specs.Records.{Raw, Bytes, Absent, Section, Symbol, Object}
pub use Rattle.coff_read.specs.Records.{raw_size, section_number, aux_records, records_of}
use Rattle.coff_read.specs.Strings.{with_strings, offset_of, string_bytes}
use Rattle.coff_read.specs.declared.relocation.Relocation.{Relocation}

-- the names that go into the string table, in order of first use: of sections, then of symbols
abbrev pub long_section_names : List Section → List (List ℕ)
long_section_names sections = filter is_long_section_name (map (λ s. s.name) sections)

abbrev pub long_symbol_names : List Symbol → List (List ℕ)
long_symbol_names symbols = filter is_long (map (λ s. s.name) symbols)

unfoldable pub strings_of : Object → List (List ℕ)
strings_of o = with_strings (with_strings [] (long_section_names o.sections)) (long_symbol_names o.symbols)

abbrev pub relocation_numbers : Relocation → List Number
relocation_numbers r = U32 r.address ∷ U32 r.symbol ∷ U16 r.kind ∷ []

abbrev pub relocation_bytes : Relocation → List ℕ
relocation_bytes r = numbers_bytes (relocation_numbers r)

abbrev pub raw_bytes : Raw → List ℕ
raw_bytes (Bytes bytes) = bytes
raw_bytes (Absent size) = []

-- a pointer to a part of so many entries: 0 if it has none
abbrev pub pointer_to : ℕ → ℕ → ℕ
pointer_to at count = if count == 0 then 0 else at

-- a section's raw data and its relocations
abbrev pub section_body : Section → List ℕ
section_body s = raw_bytes s.raw ++ flat_map relocation_bytes s.relocations

-- the name field of a section; a name that is too long is at an offset of the string table
abbrev pub section_name_at : ℕ → List ℕ → List ℕ
section_name_at offset name = if is_long_section_name name then padded (47 ∷ decimal_digits offset) else padded name

abbrev pub section_name_field : List (List ℕ) → List ℕ → List ℕ
section_name_field strings name = section_name_at (offset_of strings name) name

-- the fields of a section header after its name, if its body is at a file offset
abbrev pub section_numbers : ℕ → Section → List Number
section_numbers at s =
    U32 s.virtual_size ∷ U32 s.virtual_address ∷ U32 (raw_size s.raw)
    ∷ U32 (pointer_to at (length (raw_bytes s.raw))) ∷ U32 (pointer_to (at + length (raw_bytes s.raw)) (length s.relocations)) ∷ U32 0
    ∷ U16 (length s.relocations) ∷ U16 0 ∷ U32 s.flags ∷ []

abbrev pub section_fields : ℕ → Section → List ℕ
section_fields at s = numbers_bytes (section_numbers at s)

abbrev pub section_header : List (List ℕ) → ℕ → Section → List ℕ
section_header strings at s = section_name_field strings s.name ++ section_fields at s

-- the section table, if the first body is at a file offset
abbrev pub section_table : List (List ℕ) → ℕ → List Section → List ℕ
section_table strings at [] = []
section_table strings at (s ∷ ss) = section_header strings at s ++ section_table strings (at + length (section_body s)) ss

-- the name field of a symbol; a name that is too long is at an offset of the string table
abbrev pub symbol_name_at : ℕ → List ℕ → List ℕ
symbol_name_at offset name = if is_long name then numbers_bytes (U32 0 ∷ U32 offset ∷ []) else padded name

abbrev pub symbol_name_field : List (List ℕ) → List ℕ → List ℕ
symbol_name_field strings name = symbol_name_at (offset_of strings name) name

-- the fields of a symbol's record after its name
abbrev pub symbol_numbers : Symbol → List Number
symbol_numbers s = U32 s.value ∷ U16 (section_number s.section) ∷ U16 s.kind ∷ U8 s.class ∷ U8 (aux_records s) ∷ []

abbrev pub symbol_fields : Symbol → List ℕ
symbol_fields s = numbers_bytes (symbol_numbers s)

-- a symbol's record and its auxiliary records
abbrev pub symbol_bytes : List (List ℕ) → Symbol → List ℕ
symbol_bytes strings s = symbol_name_field strings s.name ++ (symbol_fields s ++ s.aux)

-- where the bodies begin
abbrev pub bodies_start : Object → ℕ
bodies_start o = 20 + length o.optional + 40 * length o.sections

-- where the symbol table begins
abbrev pub symbols_start : Object → ℕ
symbols_start o = bodies_start o + length (flat_map section_body o.sections)

-- there are symbols, or strings
abbrev pub has_strings : Object → Bool
has_strings o = nat_lt 0 (length o.symbols + length (strings_of o))

abbrev pub header_numbers : Object → List Number
header_numbers o =
    U16 o.machine ∷ U16 (length o.sections) ∷ U32 o.time_stamp ∷ U32 (if has_strings o then symbols_start o else 0) ∷ U32 (records_of o.symbols)
    ∷ U16 (length o.optional) ∷ U16 o.characteristics ∷ []

abbrev pub coff_header : Object → List ℕ
coff_header o = numbers_bytes (header_numbers o)

-- the string table, with its size field
abbrev pub string_table : Object → List ℕ
string_table o =
    if has_strings o then numbers_bytes (U32 (4 + length (string_bytes (strings_of o))) ∷ []) ++ string_bytes (strings_of o) else []

-- the written form
unfoldable pub canon : Object → List ℕ
canon o =
    coff_header o ++ (o.optional ++ (section_table (strings_of o) (bodies_start o) o.sections
    ++ (flat_map section_body o.sections ++ (flat_map (symbol_bytes (strings_of o)) o.symbols ++ string_table o))))
