-- The rules of all tables of an image, in the order of their findings.
use Rattle.std.specs.Prelude.{ℕ, List, ◌++◌}
use Rattle.pe_view.specs.Faults.{Test}
use Rattle.pe_layout.specs.Image.{LaidOut}
use Rattle.pe_records.specs.BoundImportTests.{bound_tests}
use Rattle.pe_records.specs.ClrHeader.{clr_tests}
use Rattle.pe_records.specs.Debug.{debug_entry_at}
use Rattle.pe_records.specs.DebugTests.{entry_tests}
use Rattle.pe_records.specs.Exceptions.{exception_tests}
use Rattle.pe_records.specs.LoadTests.{load_tests}
use Rattle.pe_records.specs.TableTests.{table_tests}
use Rattle.pe_records.specs.TlsTests.{tls_tests}

abbrev pub debug_tests : LaidOut → List ℕ → List Test
debug_tests i file = table_tests debug_entry_at entry_tests 28 101 i file (i.directory 6)

abbrev pub finding_tests : ℕ → LaidOut → List ℕ → List Test
finding_tests machine i file =
    debug_tests i file ++ (exception_tests machine i file ++ (tls_tests i ++ (load_tests i ++ (bound_tests i ++ clr_tests i))))
