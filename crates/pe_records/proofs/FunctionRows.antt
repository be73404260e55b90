-- Exception tables by the definitions, as examples ("PE Format", The .pdata Section).
use Rattle.std.proofs.Common.{◌≡◌, ℕ, false, List, [], ◌∷◌, Option, Some, None, refl}
use Rattle.std.specs.Prelude.{◌==◌, if◌then◌else◌}
use Rattle.pe_view.specs.declared.fault.Fault.{Fault}
use Rattle.pe_view.specs.declared.fault.Place.TheVariants.{Rva}
use Rattle.pe_view.specs.Standing.{standing}
use Rattle.pe_layout.specs.Image.{LaidOut}
use Rattle.pe_records.specs.ArmFunctions as arm
use Rattle.pe_records.specs.Exceptions.{exception_tests}
use Rattle.pe_records.specs.Functions.{function_at, function_tests}
use Rattle.pe_records.specs.Records.{records_in}
use Rattle.pe_records.specs.declared.arm_function.ArmFunction.{ArmFunction}
use Rattle.pe_records.specs.declared.function.Function.{Function}

abbrev image : LaidOut
image = record {
  number = 7;
  size = 0x3000;
  byte = λ _. 0;
  raw_left = λ _. 0;
  text = λ _. None;
  directory = λ _. None;
  slot_width = 8;
  image_base = 0x10000000;
  is_stripped = false;
}

abbrev bytes : List ℕ
bytes =
    0x01 ∷ 0x02 ∷ 0x03 ∷ 0x04 ∷ 0x05 ∷ 0x06 ∷ 0x07 ∷ 0x08 ∷ 0x09 ∷ 0x0a ∷ 0x0b ∷ 0x0c
    ∷ 0x21 ∷ 0x22 ∷ 0x23 ∷ 0x24 ∷ 0x25 ∷ 0x26 ∷ 0x27 ∷ 0x28 ∷ 0x29 ∷ 0x2a ∷ 0x2b ∷ 0x2c ∷ []

abbrev function : ℕ → ℕ → ℕ → Function
function begin end unwind = record { begin = begin; end = end; unwind = unwind }

two_of_24_bytes : records_in function_at 12 bytes ≡ function 0x04030201 0x08070605 0x0c0b0a09 ∷ function 0x24232221 0x28272625 0x2c2b2a29 ∷ []
two_of_24_bytes = refl

abbrev found : ℕ → Fault
found number = record { number = number; image = 7; place = Rva 0x2000 }

abbrev findings : Option Function → Function → List Fault
findings before f = standing (function_tests image [] before f 0x2000)

-- an empty function up to the end of the image, whose unwind information is there, and which begins as the one before it does
nothing : findings (Some (function 0x3000 0 0)) (function 0x3000 0x3000 0x2ffc) ≡ []
nothing = refl

ends_before_it_begins : findings None (function 0x1001 0x1000 0x2000) ≡ found 113 ∷ []
ends_before_it_begins = refl

passes_image : findings None (function 0x1000 0x3001 0x2000) ≡ found 114 ∷ []
passes_image = refl

unwind_passes_image : findings None (function 0x1000 0x1001 0x2ffe) ≡ found 115 ∷ []
unwind_passes_image = refl

-- an odd RVA is that of another function, with 1 added
chained : findings None (function 0x1000 0x1001 0x2ffd) ≡ []
chained = refl

out_of_order : findings (Some (function 0x1001 0 0)) (function 0x1000 0x1001 0x2000) ≡ found 116 ∷ []
out_of_order = refl

all : findings (Some (function 0x3003 0 0)) (function 0x3002 0x3001 0xffffffff) ≡ found 113 ∷ found 114 ∷ found 115 ∷ found 116 ∷ []
all = refl

-- ---- ARM64 and ARMNT
abbrev arm_function : ℕ → ℕ → ArmFunction
arm_function begin unwind = record { begin = begin; unwind = unwind }

three_of_24_bytes : records_in arm.arm_function_at 8 bytes ≡ arm_function 0x04030201 0x08070605 ∷ arm_function 0x0c0b0a09 0x24232221 ∷ arm_function 0x28272625 0x2c2b2a29 ∷ []
three_of_24_bytes = refl

abbrev arm_findings : Option ArmFunction → ArmFunction → List Fault
arm_findings before f = standing (arm.arm_function_tests image [] before f 0x2000)

arm_nothing : arm_findings (Some (arm_function 0x2fff 0)) (arm_function 0x2fff 0x2ffc) ≡ []
arm_nothing = refl

arm_packed : arm_findings None (arm_function 0x1000 0xfffffffd) ≡ []
arm_packed = refl

arm_all : arm_findings (Some (arm_function 0x3001 0)) (arm_function 0x3000 0x3000) ≡ found 114 ∷ found 115 ∷ found 116 ∷ []
arm_all = refl

-- ---- by machine: a table of one record, which is out of the image for either
abbrev table : LaidOut
table = record image { raw_left = λ _. 12; byte = λ _. 0xff; directory = λ k. if k == 3 then Some (record { rva = 0x1000; size = 12 }) else None }

abbrev found_at : ℕ → Fault
found_at number = record { number = number; image = 7; place = Rva 0x1000 }

amd64 : standing (exception_tests 0x8664 table []) ≡ found_at 114 ∷ found_at 115 ∷ []
amd64 = refl

arm64 : standing (exception_tests 0xaa64 table []) ≡ found_at 112 ∷ found_at 114 ∷ []
arm64 = refl

armnt : standing (exception_tests 0x1c4 table []) ≡ found_at 112 ∷ found_at 114 ∷ []
armnt = refl

i386 : standing (exception_tests 0x14c table []) ≡ []
i386 = refl
