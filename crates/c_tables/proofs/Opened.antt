-- What is told of an archive that was opened holds for its file.
use Rattle.std.proofs.Common.{◌≡◌, ◌≢◌, ℕ, Bool, false, List, Option, None, Some, refl, sym, ap, subst}
use Rattle.std.specs.Option.{unwrap_or}
use Rattle.pe_view.specs.Faults.{first_standing}
use Rattle.pe_view.specs.declared.fault.Fault.{Fault}
use Rattle.coff_archive.specs.ArchiveFile.{file_of, is_thin}
use Rattle.coff_archive.specs.FileTests.{file_tests, is_thin_file}
use Rattle.coff_archive.specs.Members.{thinness}
use Rattle.coff_archive.specs.Symbols.{Symbol}
use Rattle.coff_archive.specs.declared.archive.Archive.{Archive}
use Rattle.coff_archive.specs.declared.linker.Linker.{Linker}
use Rattle.pe_records_c.specs.Faults.{fault_record}
use Rattle.pe_records_c.specs.declared.fault.FaultRecord.{FaultRecord}
use Rattle.pe_records_c.proofs.Telling.{fault_told, none_refused, table_no_fault}
use Rattle.c_tables.specs.ArchiveSymbolRows.{ReadsLinker, ReadsSymbols, TellsSymbols, linker_symbols}
use Rattle.c_tables.specs.declared.archive_symbol.ArchiveSymbolRow.{ArchiveSymbolRow}

pub of_file : (told : Bool → List ℕ → Type 0) (a : Archive) (file : List ℕ) → file_of a ≡ file → thinness file ≡ Some (is_thin a) → told (is_thin a) (file_of a) → told (is_thin_file file) file
of_file told a file same thin held =
    subst (λ (t : Bool). told t file) (sym (ap (λ (t : Option Bool). unwrap_or t false) thin)) (subst (λ (f : List ℕ). told (is_thin a) f) same held)

-- the status of symbols is not that of a fault
symbols_no_fault : (table : Option (List Symbol)) (rows rows_after : List ArchiveSymbolRow) (count count_after status : ℕ) → TellsSymbols table rows rows_after count count_after status → status ≢ 1
symbols_no_fault None rows rows_after count count_after status told = λ one. absurd cc (told.0, one)
symbols_no_fault (Some table) rows rows_after count count_after status told = table_no_fault _ _ _ _ _ _ _ told

-- symbols that are told
pub linker_read : (linker : Linker) (a : Archive) (file : List ℕ) (rows rows_after : List ArchiveSymbolRow) (count count_after : ℕ) (fault : FaultRecord) (status : ℕ) → first_standing (file_tests file) ≡ None
    → file_of a ≡ file → thinness file ≡ Some (is_thin a) → TellsSymbols (linker_symbols linker (is_thin a) (file_of a)) rows rows_after count count_after status
    → ReadsLinker file linker rows rows_after count count_after fault fault status
linker_read linker a file rows rows_after count count_after fault status none same thin told =
    let other = symbols_no_fault (linker_symbols linker (is_thin a) (file_of a)) rows rows_after count count_after status told in
    record {
      refused = none_refused (first_standing (file_tests file)) fault status none other;
      table = λ _. of_file (λ t f. TellsSymbols (linker_symbols linker t f) rows rows_after count count_after status) a file same thin told;
      rows_kept = λ one. absurd (other one);
      count_kept = λ one. absurd (other one);
    }

-- a file that is refused
pub linker_refused : (linker : Linker) (file : List ℕ) (rows : List ArchiveSymbolRow) (count : ℕ) (first : Fault) (fault fault_after : FaultRecord) (status : ℕ) → first_standing (file_tests file) ≡ Some first
    → status ≡ 1 → fault_after ≡ fault_record first → ReadsLinker file linker rows rows count count fault fault_after status
linker_refused linker file rows count first fault fault_after status is one told = record {
  refused = fault_told (first_standing (file_tests file)) first fault fault_after status is one told;
  table = λ other. absurd (other one);
  rows_kept = λ _. refl;
  count_kept = λ _. refl;
}

-- by the number of the linker member
pub numbered : (file : List ℕ) (found : Option Linker) (linker : Linker) (rows rows_after : List ArchiveSymbolRow) (count count_after : ℕ) (fault fault_after : FaultRecord) (status : ℕ) → found ≡ Some linker
    → ReadsLinker file linker rows rows_after count count_after fault fault_after status → ReadsSymbols file found rows rows_after count count_after fault fault_after status
numbered file found linker rows rows_after count count_after fault fault_after status is read =
    subst (λ (l : Option Linker). ReadsSymbols file l rows rows_after count count_after fault fault_after status) (sym is) read
