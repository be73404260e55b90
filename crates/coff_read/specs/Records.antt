-- The contents of an object file ("PE Format": COFF File Header, Section Table, COFF Symbol Table), with strings and bytes as
-- lists.
use Rattle.std.specs.Prelude.{ℕ, ◌+◌, ◌/◌, ◌<◌, ◌^◌, List, [], ◌∷◌, length, ⊤}
use Rattle.std.specs.List.{AllByRecursion}
use Rattle.coff_read.specs.declared.relocation.Relocation.{Relocation}
use Rattle.coff_read.specs.declared.symbol.SymbolSection.{SymbolSection}
use Rattle.coff_read.specs.declared.symbol.SymbolSection.TheVariants as belongs

-- the raw data of a section, or SizeOfRawData if none is in the file
pub data Raw : Type 0 where
  Bytes : (bytes : List ℕ) → Raw
  Absent : (size : ℕ) → Raw

-- the size of a section in bytes: its SizeOfRawData
abbrev pub raw_size : Raw → ℕ
raw_size (Bytes bytes) = length bytes
raw_size (Absent size) = size

pub record Section : Type 0 where
  pub name : List ℕ
  pub virtual_size : ℕ
  pub virtual_address : ℕ
  pub raw : Raw
  pub flags : ℕ
  pub relocations : List Relocation

-- the field SectionNumber of a symbol's record
abbrev pub section_number : SymbolSection → ℕ
section_number belongs.Undefined = 0
section_number belongs.Absolute = 0xffff
section_number belongs.Debug = 0xfffe
section_number (belongs.Section number) = number

pub record Symbol : Type 0 where
  pub name : List ℕ
  pub value : ℕ
  pub section : SymbolSection
  pub kind : ℕ
  pub class : ℕ
  pub aux : List ℕ

pub record Object : Type 0 where
  pub machine : ℕ
  pub time_stamp : ℕ
  pub characteristics : ℕ
  pub optional : List ℕ
  pub sections : List Section
  pub symbols : List Symbol

-- how many auxiliary records a symbol has
abbrev pub aux_records : Symbol → ℕ
aux_records s = length s.aux / 18

-- how many records the symbols have
abbrev pub records_of : List Symbol → ℕ
records_of [] = 0
records_of (s ∷ ss) = 1 + aux_records s + records_of ss

-- the numbers have the widths of their fields
pub record RelocationFits (r : Relocation) : Type 0 where
  pub address : r.address < 2 ^ 32
  pub symbol : r.symbol < 2 ^ 32
  pub kind : r.kind < 2 ^ 16

abbrev pub RawFits : Raw → Type 0
RawFits (Bytes bytes) = ⊤
RawFits (Absent size) = size < 2 ^ 32

pub record SectionFits (s : Section) : Type 0 where
  pub virtual_size : s.virtual_size < 2 ^ 32
  pub virtual_address : s.virtual_address < 2 ^ 32
  pub raw : RawFits s.raw
  pub flags : s.flags < 2 ^ 32

abbrev pub RelocationsFit : Section → Type 0
RelocationsFit s = AllByRecursion RelocationFits s.relocations

pub record SymbolFits (s : Symbol) : Type 0 where
  pub value : s.value < 2 ^ 32
  pub kind : s.kind < 2 ^ 16
  pub class : s.class < 2 ^ 8

pub record HeaderFits (o : Object) : Type 0 where
  pub machine : o.machine < 2 ^ 16
  pub time_stamp : o.time_stamp < 2 ^ 32
  pub characteristics : o.characteristics < 2 ^ 16

pub record Fits (o : Object) : Type 0 where
  pub header : HeaderFits o
  pub sections : AllByRecursion SectionFits o.sections
  pub relocations : AllByRecursion RelocationsFit o.sections
  pub symbols : AllByRecursion SymbolFits o.symbols
