-- An object file of either form as functions of its bytes: at the plain form these are the definitions of Strings, Names and Reading,
-- as the law `plain_objects_are_of_the_plain_form` says.
use Rattle.std.specs.Prelude.{ℕ, zero, suc, ◌+◌, ◌*◌, ◌==◌, List, [], ◌∷◌, map, Option, None, Some, nat_lt, if◌then◌else◌}
use Rattle.std.specs.List.{range_with_len}
use Rattle.std.specs.Option.{unwrap_or}
use Rattle.pe_view.specs.Number.{part}
use Rattle.pe_view.specs.Text.{text_between}
use Rattle.coff_read.specs.Field.{field}
use Rattle.coff_read.specs.Forms.{Form, header_len, machine_at, time_stamp_at, symbols_at, records_at, number_width, symbol_len, kind_at, class_at, aux_at, absolute_number, debug_number, optional_size, characteristics_of, section_count}
use Rattle.coff_read.specs.Names.{up_to_zero, name_offset}
use Rattle.coff_read.specs.Reading.{relocation_at, relocation_start, raw_at}
use Rattle.coff_read.specs.Records.{Section, Symbol, Object}
use Rattle.coff_read.specs.Strings.{size_field}
use Rattle.coff_read.specs.declared.symbol.SymbolSection.{SymbolSection}
use Rattle.coff_read.specs.declared.symbol.SymbolSection.TheVariants as belongs

-- where the symbol table begins, and how many records it has: none if PointerToSymbolTable is 0
abbrev pub symbol_pointer : Form → List ℕ → ℕ
symbol_pointer big file = field file 0 (symbols_at big) 4

abbrev pub record_count : Form → List ℕ → ℕ
record_count big file = if symbol_pointer big file == 0 then 0 else field file 0 (records_at big) 4

-- where the string table begins: after the symbols
abbrev pub strings_start : Form → List ℕ → ℕ
strings_start big file = symbol_pointer big file + symbol_len big * record_count big file

-- the size of the string table in bytes, its size field counted: 0 if PointerToSymbolTable is 0
abbrev pub strings_size : Form → List ℕ → ℕ
strings_size big file = if symbol_pointer big file == 0 then 0 else size_field file (strings_start big file)

-- the string at an offset of the string table
abbrev pub string_at : Form → List ℕ → ℕ → Option (List ℕ)
string_at big file offset =
    if nat_lt offset 4 then None
    else text_between file (strings_start big file + offset) (strings_start big file + strings_size big file)

abbrev pub section_text : Form → List ℕ → List ℕ → Option ℕ → Option (List ℕ)
section_text big file field None = Some (up_to_zero field)
section_text big file field (Some offset) = string_at big file offset

-- the name of the section whose header is at a file offset
abbrev pub section_name : Form → List ℕ → ℕ → Option (List ℕ)
section_name big file h = section_text big file (part file h 8) (name_offset (part file h 8))

-- the name of the symbol whose record is at a file offset
abbrev pub symbol_name : Form → List ℕ → ℕ → Option (List ℕ)
symbol_name big file at =
    if field file at 0 4 == 0
    then (if field file at 4 4 == 0 then Some [] else string_at big file (field file at 4 4))
    else Some (up_to_zero (part file at 8))

-- the file offset of section i's header
abbrev pub section_start : Form → List ℕ → ℕ → ℕ
section_start big file i = header_len big + optional_size big file + 40 * i

-- the section whose header is at a file offset
abbrev pub section_in : Form → List ℕ → ℕ → Section
section_in big file h = record {
  name = unwrap_or (section_name big file h) [];
  virtual_size = field file h 8 4;
  virtual_address = field file h 12 4;
  raw = raw_at file (field file h 20 4) (field file h 16 4) (field file h 36 4);
  flags = field file h 36 4;
  relocations = map (λ k. relocation_at file (relocation_start file h k)) (range_with_len 0 (field file h 32 2));
}

-- the file offset of record k of the symbol table
abbrev pub record_start : Form → List ℕ → ℕ → ℕ
record_start big file k = symbol_pointer big file + symbol_len big * k

-- how many auxiliary records follow the record at a file offset
abbrev pub aux_of : Form → List ℕ → ℕ → ℕ
aux_of big file at = field file at (aux_at big) 1

-- how many auxiliary records follow record k
abbrev pub aux_count : Form → List ℕ → ℕ → ℕ
aux_count big file k = aux_of big file (record_start big file k)

-- SectionNumber of the record at a file offset
abbrev pub number_in : Form → List ℕ → ℕ → ℕ
number_in big file at = field file at 12 (number_width big)

-- the section of a SectionNumber
abbrev pub section_of_number : Form → ℕ → SymbolSection
section_of_number big number =
    if number == 0 then belongs.Undefined
    else (if number == absolute_number big then belongs.Absolute
    else (if number == debug_number big then belongs.Debug else belongs.Section number))

-- the symbol whose record is at a file offset
abbrev pub symbol_at : Form → List ℕ → ℕ → Symbol
symbol_at big file at = record {
  name = unwrap_or (symbol_name big file at) [];
  value = field file at 8 4;
  section = section_of_number big (number_in big file at);
  kind = field file at (kind_at big) 2;
  class = field file at (class_at big) 1;
  aux = part file (at + symbol_len big) (symbol_len big * aux_of big file at);
}

-- which of the records from k on, `left` of them, begin a symbol, where the next `skip` records are auxiliary
abbrev pub symbols_from : Form → List ℕ → ℕ → ℕ → ℕ → List ℕ
symbols_from big file k zero skip = []
symbols_from big file k (suc left) zero = k ∷ symbols_from big file (k + 1) left (aux_count big file k)
symbols_from big file k (suc left) (suc skip) = symbols_from big file (k + 1) left skip

-- the indexes of the records that begin a symbol
abbrev pub symbol_indexes : Form → List ℕ → List ℕ
symbol_indexes big file = symbols_from big file 0 (record_count big file) 0

-- the file offsets of the section headers
abbrev pub section_starts : Form → List ℕ → List ℕ
section_starts big file = map (section_start big file) (range_with_len 0 (section_count big file))

-- the object in a file
abbrev pub object_of : Form → List ℕ → Object
object_of big file = record {
  machine = field file 0 (machine_at big) 2;
  time_stamp = field file 0 (time_stamp_at big) 4;
  characteristics = characteristics_of big file;
  optional = part file (header_len big) (optional_size big file);
  sections = map (section_in big file) (section_starts big file);
  symbols = map (λ k. symbol_at big file (record_start big file k)) (symbol_indexes big file);
}
