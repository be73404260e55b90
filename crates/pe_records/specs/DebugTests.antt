-- The rules of an entry of the debug directory.
use Rattle.std.specs.Prelude.{ℕ, ◌+◌, Bool, false, not, ◌&&◌, ◌==◌, nat_lt, List, [], ◌∷◌, length, Option, Some, None, if◌then◌else◌}
use Rattle.pe_view.specs.declared.fault.Place.TheVariants.{Rva}
use Rattle.pe_view.specs.Faults.{Test, test}
use Rattle.pe_layout.specs.Image.{LaidOut, is_inside}
use Rattle.pe_records.specs.declared.debug.DebugEntry.{DebugEntry}
use Rattle.pe_records.specs.CodeView.{code_view_of, has_no_end}
use Rattle.pe_records.specs.Debug.{data_of}
use Rattle.pe_records.specs.Records.{start_of}

abbrev pub passes_file : List ℕ → DebugEntry → Bool
passes_file file e = not (e.pointer_to_raw_data == 0) && nat_lt (length file) (e.pointer_to_raw_data + e.size_of_data)

abbrev pub passes_image : LaidOut → DebugEntry → Bool
passes_image i e = not (e.address_of_raw_data == 0) && not (is_inside i e.address_of_raw_data e.size_of_data)

abbrev pub is_endless_path : Option (List ℕ) → Bool
is_endless_path None = false
is_endless_path (Some bytes) = has_no_end (code_view_of bytes)

abbrev pub is_endless : List ℕ → DebugEntry → Bool
is_endless file e = if e.kind == 2 then is_endless_path (data_of file e) else false

-- the entry at an RVA is one of the first 32: of the others no path is searched, since all might name one that is as long as the file
abbrev pub is_early : LaidOut → ℕ → Bool
is_early i rva = nat_lt rva (start_of (i.directory 6) + 896)

-- the data passes the end of the file, at its pointer; it passes the end of the image, at its RVA; a CodeView path has no zero byte
abbrev pub entry_tests : LaidOut → List ℕ → Option DebugEntry → DebugEntry → ℕ → List Test
entry_tests i file before e rva =
    test 103 i.number (Rva rva) (passes_file file e)
    ∷ test 104 i.number (Rva rva) (passes_image i e)
    ∷ test 105 i.number (Rva rva) (is_early i rva && is_endless file e)
    ∷ []
