-- The rules of the load configuration, in the order of its findings.
use Rattle.std.specs.Prelude.{ℕ, ◌||◌, Bool, true, nat_lt, List, [], ◌∷◌, ◌++◌, Option, None, Some}
use Rattle.pe_view.specs.declared.fault.Place.TheVariants.{Rva}
use Rattle.pe_view.specs.Faults.{Test, test}
use Rattle.pe_head.specs.declared.directory.Directory.{Directory}
use Rattle.pe_layout.specs.Image.{LaidOut}
use Rattle.pe_records.specs.LoadConfiguration.{size_at}
use Rattle.pe_records.specs.LoadTables.{load_table_in, table_passes}
use Rattle.pe_records.specs.Structure.{structure_bytes}
use Rattle.pe_records.specs.declared.load_tables.LoadTableKind.{LoadTableKind}
use Rattle.pe_records.specs.declared.load_tables.LoadTableKind.TheVariants.{Handlers, Functions, EhContinuations, IatEntries, LongJumpTargets}

-- Size is more than the file holds in one run; it is less than its own field has
abbrev pub size_tests : LaidOut → ℕ → ℕ → List Test
size_tests i rva size =
    test 142 i.number (Rva rva) (nat_lt (i.raw_left rva) size)
    ∷ test 143 i.number (Rva rva) (nat_lt size 4)
    ∷ []

abbrev pub passes : LaidOut → ℕ → List ℕ → LoadTableKind → Bool
passes i address bytes kind = table_passes i (load_table_in address bytes kind)

-- a table is not all in its run: of exception handlers; of functions; of continuations; of import addresses, or of long jumps
abbrev pub tables_tests : LaidOut → ℕ → ℕ → List ℕ → List Test
tables_tests i rva address bytes =
    test 144 i.number (Rva rva) (passes i address bytes Handlers)
    ∷ test 145 i.number (Rva rva) (passes i address bytes Functions)
    ∷ test 146 i.number (Rva rva) (passes i address bytes EhContinuations)
    ∷ test 147 i.number (Rva rva) (passes i address bytes IatEntries || passes i address bytes LongJumpTargets)
    ∷ []

-- the file does not hold the field Size; or those of Size, and of the tables
abbrev pub load_tests_of : LaidOut → ℕ → Option ℕ → List Test
load_tests_of i rva None = test 141 i.number (Rva rva) true ∷ []
load_tests_of i rva (Some size) = size_tests i rva size ++ tables_tests i rva i.slot_width (structure_bytes i rva size)

abbrev pub load_tests_at : LaidOut → Option Directory → List Test
load_tests_at i None = []
load_tests_at i (Some d) = load_tests_of i d.rva (size_at i d.rva)

abbrev pub load_tests : LaidOut → List Test
load_tests i = load_tests_at i (i.directory 10)
