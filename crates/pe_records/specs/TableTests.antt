-- The rules of a table, in the order of its findings: of its directory, and then of each record.
use Rattle.std.specs.Prelude.{ℕ, ◌+◌, ◌*◌, ◌/◌, ◌%◌, not, nat_lt, ◌==◌, List, [], ◌∷◌, ◌++◌, length, Option, Some, None}
use Rattle.std.specs.List.{flat_map, range_with_len}
use Rattle.pe_view.specs.declared.fault.Place.TheVariants.{Rva}
use Rattle.pe_view.specs.Faults.{Test, test}
use Rattle.pe_head.specs.declared.directory.Directory.{Directory}
use Rattle.pe_layout.specs.Image.{LaidOut}
use Rattle.pe_records.specs.Records.{record_before, table_bytes}

-- the table goes on after the bytes that the file holds in one run; its Size is no multiple of a record's length
abbrev pub extent_tests : ℕ → ℕ → LaidOut → Directory → List Test
extent_tests len finding i d =
    test finding i.number (Rva d.rva) (nat_lt (i.raw_left d.rva) d.size)
    ∷ test (finding + 1) i.number (Rva d.rva) (not (d.size % len == 0))
    ∷ []

-- those of record k of a table's bytes, where `at` gives the record at an offset, and `tests` has the rules of a record
abbrev pub record_tests : {R : Type 0} → (List ℕ → ℕ → R) → (LaidOut → List ℕ → Option R → R → ℕ → List Test) → ℕ → LaidOut → List ℕ → List ℕ → ℕ → ℕ → List Test
record_tests at tests len i file bytes start k = tests i file (record_before at len bytes k) (at bytes (len * k)) (start + len * k)

abbrev pub records_tests : {R : Type 0} → (List ℕ → ℕ → R) → (LaidOut → List ℕ → Option R → R → ℕ → List Test) → ℕ → LaidOut → List ℕ → List ℕ → ℕ → List Test
records_tests at tests len i file bytes start = flat_map (record_tests at tests len i file bytes start) (range_with_len 0 (length bytes / len))

abbrev pub table_tests : {R : Type 0} → (List ℕ → ℕ → R) → (LaidOut → List ℕ → Option R → R → ℕ → List Test) → ℕ → ℕ → LaidOut → List ℕ → Option Directory → List Test
table_tests at tests len finding i file None = []
table_tests at tests len finding i file (Some d) =
    extent_tests len finding i d ++ records_tests at tests len i file (table_bytes i (Some d)) d.rva
