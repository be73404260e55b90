-- The rows are those of the machine's table.
use Rattle.std.proofs.Common.{[]}
use Rattle.pe_layout.specs.Layout.{headers_of, image_of}
use Rattle.pe_records_c.proofs.Rows.{table_told}
use Rattle.c_tables.specs.FunctionRows.{function_row, arm_function_row}
use Rattle.c_tables.proofs.Functions.{amd64_rows, arm_rows, no_rows}
use Rattle.c_tables.proofs.function.tell_functions.Goals as goal

pub returns-in-Amd64 : goal.returns-in-Amd64
returns-in-Amd64 c =
    let layout = c.args.layout.now in
    let held = c.in-Amd64.ensures in
    let told = c.put_items.ensures in
    table_told (λ r. r) function_row (λ r. r) _ _ _ _ _ _ (amd64_rows (headers_of layout).machine (image_of layout) _ held.0 held.1) told.rows told.count told.status

pub returns-in-Arm : goal.returns-in-Arm
returns-in-Arm c =
    let layout = c.args.layout.now in
    let held = c.in-Arm.ensures in
    let told = c.put_items-in-Arm.ensures in
    table_told (λ r. r) arm_function_row (λ r. r) _ _ _ _ _ _ (arm_rows (headers_of layout).machine (image_of layout) _ held.0 held.1) told.rows told.count told.status

pub returns-in-Other : goal.returns-in-Other
returns-in-Other c =
    let layout = c.args.layout.now in
    let told = c.put_table.ensures in
    table_told (λ r. r) function_row (λ r. r) [] _ _ _ _ _ (no_rows (headers_of layout).machine (image_of layout) c.in-Other.ensures) told.rows told.count told.status
