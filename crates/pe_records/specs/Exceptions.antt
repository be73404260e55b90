-- The exception table of an image, whose records are those of its machine ("PE Format", The .pdata Section).
use Rattle.std.specs.Prelude.{◌≡◌, ℕ, ◌==◌, ◌||◌, Bool, true, false, List, [], if◌then◌else◌}
use Rattle.pe_view.specs.Faults.{Test}
use Rattle.pe_view.specs.View.{bytes_of}
use Rattle.pe_layout.specs.Image.{LaidOut}
use Rattle.pe_records.specs.ArmFunctions.{arm_function_at, arm_function_tests}
use Rattle.pe_records.specs.Functions.{function_at, function_tests}
use Rattle.pe_records.specs.Records.{start_of, table_bytes}
use Rattle.pe_records.specs.TableTests.{table_tests}
use Rattle.pe_records.specs.declared.exceptions.ExceptionTable.{ExceptionTable}
use Rattle.pe_records.specs.declared.exceptions.ExceptionTable.TheVariants.{Amd64, Arm, Other}

abbrev pub is_amd64 : ℕ → Bool
is_amd64 machine = machine == 0x8664

-- ARM64 and ARMNT
abbrev pub is_arm : ℕ → Bool
is_arm machine = (machine == 0xaa64) || (machine == 0x1c4)

-- the functions are those of the machine, and have the bytes of the exception directory's table
abbrev pub Holds : ℕ → LaidOut → ExceptionTable → Type 0
Holds machine i (Amd64 records) =
    (is_amd64 machine ≡ true) × (bytes_of records.table ≡ table_bytes i (i.directory 3)) × (records.start ≡ start_of (i.directory 3))
Holds machine i (Arm records) =
    (is_arm machine ≡ true) × (bytes_of records.table ≡ table_bytes i (i.directory 3)) × (records.start ≡ start_of (i.directory 3))
Holds machine i Other = (is_amd64 machine || is_arm machine) ≡ false

abbrev pub exception_tests : ℕ → LaidOut → List ℕ → List Test
exception_tests machine i file =
    if is_amd64 machine then table_tests function_at function_tests 12 111 i file (i.directory 3)
    else (if is_arm machine then table_tests arm_function_at arm_function_tests 8 111 i file (i.directory 3) else [])
