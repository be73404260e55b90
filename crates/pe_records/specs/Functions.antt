-- The exception table of an AMD64 image ("PE Format", The .pdata Section).
use Rattle.std.specs.Prelude.{ℕ, ◌+◌, ◌-◌, ◌%◌, Bool, false, not, nat_lt, List, [], ◌∷◌, Option, None, Some}
use Rattle.pe_view.specs.declared.fault.Place.TheVariants.{Rva}
use Rattle.pe_view.specs.Faults.{Test, test}
use Rattle.pe_layout.specs.Image.{LaidOut, is_inside}
use Rattle.pe_records.specs.Records.{number}
use Rattle.pe_records.specs.declared.function.Function.{Function}

-- the function at an offset of the table
abbrev pub function_at : List ℕ → ℕ → Function
function_at bytes offset = record {
  begin = number 4 bytes offset;
  end = number 4 bytes (offset + 4);
  unwind = number 4 bytes (offset + 8);
}

-- its unwind information is not in the image: 4 bytes, or, after an odd RVA's even one, another function of the table
abbrev pub is_lost : LaidOut → Function → Bool
is_lost i f = not (is_inside i (f.unwind - f.unwind % 2) 4)

-- it begins before the function before it does
abbrev pub begins_early : Option Function → Function → Bool
begins_early None f = false
begins_early (Some before) f = nat_lt f.begin before.begin

-- it ends before it begins; it passes the end of the image; its unwind information is not in it; it is out of order
abbrev pub function_tests : LaidOut → List ℕ → Option Function → Function → ℕ → List Test
function_tests i file before f rva =
    test 113 i.number (Rva rva) (nat_lt f.end f.begin)
    ∷ test 114 i.number (Rva rva) (nat_lt i.size f.end)
    ∷ test 115 i.number (Rva rva) (is_lost i f)
    ∷ test 116 i.number (Rva rva) (begins_early before f)
    ∷ []
