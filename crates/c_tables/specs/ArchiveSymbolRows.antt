-- The symbols of an archive's linker members as C has them.
use Rattle.std.specs.Prelude.{◌≡◌, ◌≢◌, ℕ, ◌==◌, Bool, List, Option, None, Some, option_map, if◌then◌else◌}
use Rattle.pe_view.specs.Faults.{first_standing}
use Rattle.coff_archive.specs.FileTests.{file_tests, is_thin_file}
use Rattle.coff_archive.specs.Front.{linker_member}
use Rattle.coff_archive.specs.Symbols.{Symbol, symbols}
use Rattle.coff_archive.specs.declared.linker.Linker.{Linker}
use Rattle.coff_archive.specs.declared.linker.Linker.TheVariants.{First, Second}
use Rattle.pe_records_c.specs.Faults.{IsRefusedBy}
use Rattle.pe_records_c.specs.Rows.{TellsTable}
use Rattle.pe_records_c.specs.declared.fault.FaultRecord.{FaultRecord}
use Rattle.c_tables.specs.FieldRows.{field_row}
use Rattle.c_tables.specs.declared.field.FieldRow.{FieldRow}
use Rattle.c_tables.specs.declared.archive_symbol.ArchiveSymbolRow.{ArchiveSymbolRow}

pub record SymbolText : Type 0 where
  pub name : List ℕ
  pub member : FieldRow

abbrev pub symbol_text : ArchiveSymbolRow → SymbolText
symbol_text r = record { name = r.name.now; member = r.member }

abbrev pub symbol_row : Symbol → SymbolText
symbol_row s = record { name = s.name; member = field_row s.member }

abbrev pub linker_numbered : ℕ → Option Linker
linker_numbered number = if number == 1 then Some First else (if number == 2 then Some Second else None)

-- the symbols of a linker member, if the archive has it
abbrev pub linker_symbols : Linker → Bool → List ℕ → Option (List Symbol)
linker_symbols linker thin file = option_map (λ m. symbols linker m.bytes) (linker_member linker thin file)

-- how the symbols of a linker member are reported; if there is none, status 3, and all is unchanged
abbrev pub TellsSymbols : Option (List Symbol) → List ArchiveSymbolRow → List ArchiveSymbolRow → ℕ → ℕ → ℕ → Type 0
TellsSymbols None rows rows_after count count_after status = (status ≡ 3) × (rows_after ≡ rows) × (count_after ≡ count)
TellsSymbols (Some table) rows rows_after count count_after status = TellsTable symbol_text symbol_row table rows rows_after count_after status

-- a call that reads the symbols of a linker member of a file
pub record ReadsLinker (file : List ℕ) (linker : Linker) (rows rows_after : List ArchiveSymbolRow) (count count_after : ℕ) (fault fault_after : FaultRecord) (status : ℕ) : Type 0 where
  pub refused : IsRefusedBy (first_standing (file_tests file)) fault fault_after status
  pub table : status ≢ 1 → TellsSymbols (linker_symbols linker (is_thin_file file) file) rows rows_after count count_after status
  pub rows_kept : status ≡ 1 → rows_after ≡ rows
  pub count_kept : status ≡ 1 → count_after ≡ count

-- the same for the linker member of a number: status 5, and nothing is read, if there is no such number
abbrev pub ReadsSymbols : List ℕ → Option Linker → List ArchiveSymbolRow → List ArchiveSymbolRow → ℕ → ℕ → FaultRecord → FaultRecord → ℕ → Type 0
ReadsSymbols file None rows rows_after count count_after fault fault_after status = (status ≡ 5) × ((rows_after ≡ rows) × ((count_after ≡ count) × (fault_after ≡ fault)))
ReadsSymbols file (Some linker) rows rows_after count count_after fault fault_after status = ReadsLinker file linker rows rows_after count count_after fault fault_after status
