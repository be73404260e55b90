-- Sections and relocations of an object as C has them, with strings and bytes as lists.
use Rattle.std.specs.Prelude.{◌≡◌, ℕ, List, [], length, Option, None, Some}
use Rattle.std.specs.List.{flat_map}
use Rattle.coff_read.specs.Reading.{object_of}
use Rattle.coff_read.specs.Records.{Raw, Bytes, Absent, Section}
use Rattle.coff_read.specs.declared.relocation.Relocation.{Relocation}
use Rattle.pe_records_c.specs.declared.object.ObjectRelocationRow.{ObjectRelocationRow}
use Rattle.pe_records_c.specs.declared.object.ObjectSectionRow.{ObjectSectionRow}
use Rattle.pe_records_c.specs.Rows.{Fills, TellsTable}

-- a section: its bytes are empty if the file holds none, and the absent size is 0 if it holds them
pub record SectionText : Type 0 where
  pub name : List ℕ
  pub bytes : List ℕ
  pub absent_size : ℕ
  pub virtual_size : ℕ
  pub virtual_address : ℕ
  pub characteristics : ℕ
  pub relocation_count : ℕ

abbrev pub raw_bytes : Raw → List ℕ
raw_bytes (Bytes bytes) = bytes
raw_bytes (Absent size) = []

abbrev pub absent_size : Raw → ℕ
absent_size (Bytes bytes) = 0
absent_size (Absent size) = size

abbrev pub section_row : Section → SectionText
section_row s = record {
  name = s.name;
  bytes = raw_bytes s.raw;
  absent_size = absent_size s.raw;
  virtual_size = s.virtual_size;
  virtual_address = s.virtual_address;
  characteristics = s.flags;
  relocation_count = length s.relocations;
}

abbrev pub section_text : ObjectSectionRow → SectionText
section_text row = record {
  name = row.name.now;
  bytes = row.bytes.now;
  absent_size = row.absent_size;
  virtual_size = row.virtual_size;
  virtual_address = row.virtual_address;
  characteristics = row.characteristics;
  relocation_count = row.relocation_count;
}

abbrev pub relocation_row : Relocation → ObjectRelocationRow
relocation_row r = record { address = r.address; symbol = r.symbol; kind = r.kind }

-- the first rows are those of the relocations, and the others are unchanged
abbrev pub FillsRelocations : List Relocation → List ObjectRelocationRow → List ObjectRelocationRow → Type 0
FillsRelocations relocations rows rows_after = Fills (λ relocation row. row ≡ relocation_row relocation) relocations rows rows_after

-- the relocations of all sections of a file's object, section by section
unfoldable pub relocations_of : List ℕ → List Relocation
relocations_of file = flat_map (λ s. s.relocations) (object_of file).sections

-- how the relocations of a section are reported; if there is no section, status 3, and all is unchanged
abbrev pub TellsRelocations : Option Section → List ObjectRelocationRow → List ObjectRelocationRow → ℕ → ℕ → ℕ → Type 0
TellsRelocations None rows rows_after count count_after status = (status ≡ 3) × (rows_after ≡ rows) × (count_after ≡ count)
TellsRelocations (Some s) rows rows_after count count_after status = TellsTable (λ row. row) relocation_row s.relocations rows rows_after count_after status
