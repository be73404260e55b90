-- Functions of the exception table as C has them.
use Rattle.std.specs.Prelude.{ℕ, List, [], map, if◌then◌else◌}
use Rattle.pe_layout.specs.Image.{LaidOut}
use Rattle.pe_records.specs.ArmFunctions.{arm_function_at}
use Rattle.pe_records.specs.Exceptions.{is_amd64, is_arm}
use Rattle.pe_records.specs.Functions.{function_at}
use Rattle.pe_records.specs.Records.{records_in, table_bytes}
use Rattle.pe_records.specs.declared.arm_function.ArmFunction.{ArmFunction}
use Rattle.pe_records.specs.declared.function.Function.{Function}
use Rattle.c_tables.specs.declared.function.FunctionRow.{FunctionRow}

abbrev pub function_row : Function → FunctionRow
function_row f = record { begin = f.begin; end = f.end; unwind = f.unwind; kind = 0 }

-- an ARM table does not have a function's end
abbrev pub arm_function_row : ArmFunction → FunctionRow
arm_function_row f = record { begin = f.begin; end = 0; unwind = f.unwind; kind = 1 }

-- those of a machine's table, of AMD64, or of ARM64 and ARMNT; the table of another machine has another form
abbrev pub function_rows : ℕ → LaidOut → List FunctionRow
function_rows machine i =
    if is_amd64 machine then map function_row (records_in function_at 12 (table_bytes i (i.directory 3)))
    else (if is_arm machine then map arm_function_row (records_in arm_function_at 8 (table_bytes i (i.directory 3))) else [])
