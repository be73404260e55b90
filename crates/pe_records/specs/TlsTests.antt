-- The rules of a TLS directory and its callbacks, in the order of its findings.
use Rattle.std.specs.Prelude.{◌/◌, not, nat_lt, List, [], ◌∷◌, ◌++◌, length, Option, None, Some}
use Rattle.pe_view.specs.declared.fault.Place.TheVariants.{Rva}
use Rattle.pe_view.specs.Faults.{Test, test}
use Rattle.pe_head.specs.declared.directory.Directory.{Directory}
use Rattle.pe_layout.specs.Image.{LaidOut}
use Rattle.pe_records.specs.Callbacks.{CallbackTable, callback_count, callbacks_of, entries_tests}
use Rattle.pe_records.specs.TlsFields.{structure_tests, tls_at}

-- no 0 ends the callbacks in their run; and those of each callback
abbrev pub table_tests : LaidOut → Option CallbackTable → List Test
table_tests i None = []
table_tests i (Some t) =
    test 135 i.number (Rva t.start) (not (nat_lt (callback_count t.address t.bytes) (length t.bytes / t.address))) ∷ entries_tests i t

abbrev pub callbacks_tests : LaidOut → List Test
callbacks_tests i = table_tests i (callbacks_of i)

abbrev pub tls_tests_at : LaidOut → Option Directory → List Test
tls_tests_at i None = []
tls_tests_at i (Some d) = structure_tests i d.rva (tls_at i d.rva) ++ callbacks_tests i

abbrev pub tls_tests : LaidOut → List Test
tls_tests i = tls_tests_at i (i.directory 9)
