-- An object file ("PE Format": COFF File Header, Section Table, COFF Relocations, COFF Symbol Table) as functions of its bytes:
-- each field is the number at an offset of its record, of a width; both are given with it.
use Rattle.std.specs.Prelude.{ℕ, zero, suc, ◌+◌, ◌*◌, ◌==◌, ◌||◌, Bool, not, List, [], ◌∷◌, map, bit_and, if◌then◌else◌}
use Rattle.std.specs.List.{range_with_len}
use Rattle.std.specs.Option.{unwrap_or}
use Rattle.pe_view.specs.Number.{part}
use Rattle.coff_read.specs.Field.{field}
use Rattle.coff_read.specs.Names.{section_name, symbol_name}
use Rattle.coff_read.specs.Records.{Raw, Bytes, Absent, Section, Symbol, Object}
use Rattle.coff_read.specs.Strings.{symbol_pointer, record_count}
use Rattle.coff_read.specs.declared.relocation.Relocation.{Relocation}
use Rattle.coff_read.specs.declared.symbol.SymbolSection.{SymbolSection}
use Rattle.coff_read.specs.declared.symbol.SymbolSection.TheVariants as belongs

-- the file offset of section i's header
abbrev pub section_start : List ℕ → ℕ → ℕ
section_start file i = 20 + field file 0 16 2 + 40 * i

abbrev pub relocation_at : List ℕ → ℕ → Relocation
relocation_at file at = record { address = field file at 0 4; symbol = field file at 4 4; kind = field file at 8 2 }

-- the file offset of relocation k of the section whose header is at a file offset
abbrev pub relocation_start : List ℕ → ℕ → ℕ → ℕ
relocation_start file h k = field file h 24 4 + 10 * k

-- no raw data of a section is in the file: PointerToRawData or SizeOfRawData is 0, or it is uninitialized data
abbrev pub is_absent : ℕ → ℕ → ℕ → Bool
is_absent pointer size flags = pointer == 0 || (size == 0 || not (bit_and flags 0x80 == 0))

abbrev pub raw_at : List ℕ → ℕ → ℕ → ℕ → Raw
raw_at file pointer size flags = if is_absent pointer size flags then Absent size else Bytes (part file pointer size)

-- the section whose header is at a file offset
abbrev pub section_in : List ℕ → ℕ → Section
section_in file h = record {
  name = unwrap_or (section_name file h) [];
  virtual_size = field file h 8 4;
  virtual_address = field file h 12 4;
  raw = raw_at file (field file h 20 4) (field file h 16 4) (field file h 36 4);
  flags = field file h 36 4;
  relocations = map (λ k. relocation_at file (relocation_start file h k)) (range_with_len 0 (field file h 32 2));
}

-- the file offset of record k of the symbol table
abbrev pub record_start : List ℕ → ℕ → ℕ
record_start file k = symbol_pointer file + 18 * k

-- the section of a SectionNumber
abbrev pub section_of_number : ℕ → SymbolSection
section_of_number number =
    if number == 0 then belongs.Undefined
    else (if number == 0xffff then belongs.Absolute
    else (if number == 0xfffe then belongs.Debug else belongs.Section number))

-- how many auxiliary records follow record k
abbrev pub aux_count : List ℕ → ℕ → ℕ
aux_count file k = field file (record_start file k) 17 1

-- the symbol whose record is at a file offset
abbrev pub symbol_at : List ℕ → ℕ → Symbol
symbol_at file at = record {
  name = unwrap_or (symbol_name file at) [];
  value = field file at 8 4;
  section = section_of_number (field file at 12 2);
  kind = field file at 14 2;
  class = field file at 16 1;
  aux = part file (at + 18) (18 * field file at 17 1);
}

-- which of the records from k on, `left` of them, begin a symbol, where the next `skip` records are auxiliary
abbrev pub symbols_from : List ℕ → ℕ → ℕ → ℕ → List ℕ
symbols_from file k zero skip = []
symbols_from file k (suc left) zero = k ∷ symbols_from file (k + 1) left (aux_count file k)
symbols_from file k (suc left) (suc skip) = symbols_from file (k + 1) left skip

-- the indexes of the records that begin a symbol
abbrev pub symbol_indexes : List ℕ → List ℕ
symbol_indexes file = symbols_from file 0 (record_count file) 0

-- the file offsets of the section headers
abbrev pub section_starts : List ℕ → List ℕ
section_starts file = map (section_start file) (range_with_len 0 (field file 0 2 2))

-- the object in a file
abbrev pub object_of : List ℕ → Object
object_of file = record {
  machine = field file 0 0 2;
  time_stamp = field file 0 4 4;
  characteristics = field file 0 18 2;
  optional = part file 20 (field file 0 16 2);
  sections = map (section_in file) (section_starts file);
  symbols = map (λ k. symbol_at file (record_start file k)) (symbol_indexes file);
}
