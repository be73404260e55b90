-- The exception table of an ARM64 or ARMNT image ("PE Format", The .pdata Section).
use Rattle.std.specs.Prelude.{ℕ, ◌+◌, ◌%◌, Bool, false, not, ◌&&◌, ◌==◌, nat_le, nat_lt, List, [], ◌∷◌, Option, None, Some}
use Rattle.pe_view.specs.declared.fault.Place.TheVariants.{Rva}
use Rattle.pe_view.specs.Faults.{Test, test}
use Rattle.pe_layout.specs.Image.{LaidOut, is_inside}
use Rattle.pe_records.specs.Records.{number}
use Rattle.pe_records.specs.declared.arm_function.ArmFunction.{ArmFunction}

-- the function at an offset of the table
abbrev pub arm_function_at : List ℕ → ℕ → ArmFunction
arm_function_at bytes offset = record {
  begin = number 4 bytes offset;
  unwind = number 4 bytes (offset + 4);
}

-- it has an unwind record, which is not in the image
abbrev pub is_lost : LaidOut → ArmFunction → Bool
is_lost i f = (f.unwind % 4 == 0) && not (is_inside i f.unwind 4)

-- it begins before the function before it does
abbrev pub begins_early : Option ArmFunction → ArmFunction → Bool
begins_early None f = false
begins_early (Some before) f = nat_lt f.begin before.begin

-- it begins after the image; its unwind record is not in it; it is out of order
abbrev pub arm_function_tests : LaidOut → List ℕ → Option ArmFunction → ArmFunction → ℕ → List Test
arm_function_tests i file before f rva =
    test 114 i.number (Rva rva) (nat_le i.size f.begin)
    ∷ test 115 i.number (Rva rva) (is_lost i f)
    ∷ test 116 i.number (Rva rva) (begins_early before f)
    ∷ []
