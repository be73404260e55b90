-- The rules of the bound import table, in the order of its findings.
use Rattle.std.specs.Prelude.{ℕ, ◌+◌, ◌*◌, ◌/◌, not, nat_lt, List, [], ◌∷◌, length, Option, None, Some}
use Rattle.std.specs.List.{flat_map, range_with_len}
use Rattle.pe_view.specs.declared.fault.Place.TheVariants.{Rva}
use Rattle.pe_view.specs.Faults.{Test, test}
use Rattle.pe_head.specs.declared.directory.Directory.{Directory}
use Rattle.pe_layout.specs.Image.{LaidOut, is_inside}
use Rattle.pe_records.specs.BoundImports.{bound_import_at}
use Rattle.pe_records.specs.Callbacks.{callback_count}
use Rattle.pe_records.specs.Records.{table_bytes}

-- the name of a record is not in the image
abbrev pub record_tests : LaidOut → ℕ → List ℕ → ℕ → List Test
record_tests i start bytes k =
    test 152 i.number (Rva (start + 8 * k)) (not (is_inside i (start + (bound_import_at bytes k).offset_module_name) 1)) ∷ []

abbrev pub records_tests : LaidOut → ℕ → List ℕ → List Test
records_tests i start bytes = flat_map (record_tests i start bytes) (range_with_len 0 (callback_count 8 bytes))

-- no record of zeros ends the table; and those of each record
abbrev pub bound_tests_at : LaidOut → Option Directory → List Test
bound_tests_at i None = []
bound_tests_at i (Some d) =
    test 151 i.number (Rva d.rva) (not (nat_lt (callback_count 8 (table_bytes i (Some d))) (length (table_bytes i (Some d)) / 8)))
    ∷ records_tests i d.rva (table_bytes i (Some d))

abbrev pub bound_tests : LaidOut → List Test
bound_tests i = bound_tests_at i (i.directory 11)
