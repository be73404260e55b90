-- The one written form of an object that is written plain or big: at the plain form this is that of Written.
use Rattle.std.specs.Prelude.{ℕ, ◌+◌, ◌*◌, ◌^◌, true, false, List, [], ◌∷◌, ◌++◌, length, if◌then◌else◌}
use Rattle.std.specs.List.{flat_map}
use Rattle.pe_numbers.specs.declared.number.Number.{Number}
use Rattle.pe_numbers.specs.declared.number.Number.TheVariants.{U8, U16, U32}
use Rattle.pe_numbers.specs.Numbers.{numbers_bytes}
use Rattle.coff_read.specs.FormRecords.{section_number, aux_records, records_of}
use Rattle.coff_read.specs.Forms.{Form, header_len}
use Rattle.coff_read.specs.Records.{Symbol, Object}
use Rattle.coff_object.specs.Written.{symbol_name_field, section_body, section_table, strings_of, has_strings, string_table}

-- a section's number in the width of the form
abbrev pub number_of : Form → ℕ → Number
number_of false number = U16 number
number_of true number = U32 number

-- one more than the greatest number in the width of SectionNumber
abbrev pub number_limit : Form → ℕ
number_limit false = 2 ^ 16
number_limit true = 2 ^ 32

-- the fields of a symbol's record after its name
abbrev pub symbol_numbers : Form → Symbol → List Number
symbol_numbers big s = U32 s.value ∷ number_of big (section_number big s.section) ∷ U16 s.kind ∷ U8 s.class ∷ U8 (aux_records big s) ∷ []

abbrev pub symbol_fields : Form → Symbol → List ℕ
symbol_fields big s = numbers_bytes (symbol_numbers big s)

-- a symbol's record and its auxiliary records
abbrev pub symbol_bytes : Form → List (List ℕ) → Symbol → List ℕ
symbol_bytes big strings s = symbol_name_field strings s.name ++ (symbol_fields big s ++ s.aux)

-- what a form stores of the optional header: a big object has none
abbrev pub optional_of : Form → Object → List ℕ
optional_of false o = o.optional
optional_of true o = []

-- what is read back of Characteristics
abbrev pub characteristics_of : Form → Object → ℕ
characteristics_of false o = o.characteristics
characteristics_of true o = 0

-- where the bodies begin
abbrev pub bodies_start : Form → Object → ℕ
bodies_start big o = header_len big + length (optional_of big o) + 40 * length o.sections

-- where the symbol table begins
abbrev pub symbols_start : Form → Object → ℕ
symbols_start big o = bodies_start big o + length (flat_map section_body o.sections)

-- PointerToSymbolTable
abbrev pub symbols_pointer : Form → Object → ℕ
symbols_pointer big o = if has_strings o then symbols_start big o else 0

-- The header. A big object's has 2 as Version, the class {D1BAA1C7-BAEE-4BA9-AF20-FAF66AA4DCB8}, and 0 as SizeOfData, Flags,
-- MetaDataSize and MetaDataOffset.
abbrev pub header_numbers : Form → Object → List Number
header_numbers false o =
    U16 o.machine ∷ U16 (length o.sections) ∷ U32 o.time_stamp ∷ U32 (symbols_pointer false o) ∷ U32 (records_of false o.symbols)
    ∷ U16 (length o.optional) ∷ U16 o.characteristics ∷ []
header_numbers true o =
    U16 0 ∷ U16 0xffff ∷ U16 2 ∷ U16 o.machine ∷ U32 o.time_stamp
    ∷ U32 0xd1ba_a1c7 ∷ U32 0x4ba9_baee ∷ U32 0xf6fa_20af ∷ U32 0xb8dc_a46a
    ∷ U32 0 ∷ U32 0 ∷ U32 0 ∷ U32 0 ∷ U32 (length o.sections) ∷ U32 (symbols_pointer true o) ∷ U32 (records_of true o.symbols) ∷ []

abbrev pub coff_header : Form → Object → List ℕ
coff_header big o = numbers_bytes (header_numbers big o)

-- the written form
unfoldable pub canon : Form → Object → List ℕ
canon big o =
    coff_header big o ++ (optional_of big o ++ (section_table (strings_of o) (bodies_start big o) o.sections
    ++ (flat_map section_body o.sections ++ (flat_map (symbol_bytes big (strings_of o)) o.symbols ++ string_table o))))
