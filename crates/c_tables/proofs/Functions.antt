-- The rows of an exception table by its machine.
use Rattle.std.proofs.Common.{◌≡◌, ◌||◌, ℕ, Bool, true, false, List, [], map, ap, refl, arith}
use Rattle.pe_layout.specs.Image.{LaidOut}
use Rattle.pe_records.specs.ArmFunctions.{arm_function_at}
use Rattle.pe_records.specs.Exceptions.{is_amd64, is_arm}
use Rattle.pe_records.specs.Functions.{function_at}
use Rattle.pe_records.specs.Records.{records_in, table_bytes}
use Rattle.c_tables.specs.FunctionRows.{function_row, arm_function_row, function_rows}

pub amd64_rows : (machine : ℕ) (i : LaidOut) (bytes : List ℕ) → is_amd64 machine ≡ true → bytes ≡ table_bytes i (i.directory 3)
    → map function_row (records_in function_at 12 bytes) ≡ function_rows machine i
amd64_rows machine i bytes is held = rw is (ap (λ (b : List ℕ). map function_row (records_in function_at 12 b)) held)

-- a machine of ARM is not AMD64
not_amd64 : (machine : ℕ) → is_arm machine ≡ true → is_amd64 machine ≡ false
not_amd64 machine is = grind arith

pub arm_rows : (machine : ℕ) (i : LaidOut) (bytes : List ℕ) → is_arm machine ≡ true → bytes ≡ table_bytes i (i.directory 3)
    → map arm_function_row (records_in arm_function_at 8 bytes) ≡ function_rows machine i
arm_rows machine i bytes is held = rw (not_amd64 machine is, is) (ap (λ (b : List ℕ). map arm_function_row (records_in arm_function_at 8 b)) held)

neither : (a b : Bool) → a || b ≡ false → (a ≡ false) × (b ≡ false)
neither true b is = absurd cc is
neither false b is = (refl, is)

pub no_rows : (machine : ℕ) (i : LaidOut) → is_amd64 machine || is_arm machine ≡ false → [] ≡ function_rows machine i
no_rows machine i is = let both = neither (is_amd64 machine) (is_arm machine) is in rw (both.0, both.1) refl
