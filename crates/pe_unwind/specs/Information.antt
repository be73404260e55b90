-- The unwind information of a function of an AMD64 image (x64 exception handling, struct UNWIND_INFO).
use Rattle.std.specs.Prelude.{ℕ, ◌+◌, ◌*◌, ◌/◌, ◌%◌, ◌==◌, ◌&&◌, ◌||◌, Bool, not, List, [], ◌∷◌, Option, None, Some, if◌then◌else◌}
use Rattle.pe_view.specs.declared.fault.Place.TheVariants.{Rva}
use Rattle.pe_view.specs.Faults.{Test, test}
use Rattle.pe_layout.specs.Image.{LaidOut, is_inside, number_at}
use Rattle.pe_records.specs.declared.function.Function.{Function}
use Rattle.pe_unwind.specs.declared.information.UnwindInformation.{UnwindInformation}

-- that in the four bytes at an RVA
abbrev pub information_in : LaidOut → ℕ → UnwindInformation
information_in i rva = record {
  rva = rva;
  version = i.byte rva % 8;
  flags = i.byte rva / 8;
  prologue = i.byte (rva + 1);
  code_count = i.byte (rva + 2);
  frame_register = i.byte (rva + 3) % 16;
  frame_offset = 16 * (i.byte (rva + 3) / 16);
}

abbrev pub information_at : LaidOut → ℕ → Option UnwindInformation
information_at i rva = if is_inside i rva 4 then Some (information_in i rva) else None

abbrev pub has_known_version : UnwindInformation → Bool
has_known_version u = (u.version == 1) || (u.version == 2)

abbrev pub information_tests : LaidOut → UnwindInformation → List Test
information_tests i u = test 117 i.number (Rva u.rva) (not (has_known_version u)) ∷ []

-- the flag CHAININFO is set: a function record follows the codes
abbrev pub is_chained : UnwindInformation → Bool
is_chained u = has_known_version u && (u.flags / 4 % 2 == 1)

-- EHANDLER or UHANDLER is set, and CHAININFO is not: the RVA of a handler follows the codes
abbrev pub is_handled : UnwindInformation → Bool
is_handled u = has_known_version u && (not (u.flags / 4 % 2 == 1) && not (u.flags % 4 == 0))

-- the RVA after the codes, whose slots are padded to an even count
abbrev pub after_codes : UnwindInformation → ℕ
after_codes u = u.rva + 4 + 2 * (u.code_count + u.code_count % 2)

abbrev pub handler_of : LaidOut → UnwindInformation → Option ℕ
handler_of i u = if is_handled u && is_inside i (after_codes u) 4 then Some (number_at 4 i (after_codes u)) else None

-- the function record at an RVA
abbrev pub function_in : LaidOut → ℕ → Function
function_in i rva = record { begin = number_at 4 i rva; end = number_at 4 i (rva + 4); unwind = number_at 4 i (rva + 8) }

abbrev pub function_at : LaidOut → ℕ → Option Function
function_at i rva = if is_inside i rva 12 then Some (function_in i rva) else None

-- the function that it is chained to
abbrev pub chained_of : LaidOut → UnwindInformation → Option Function
chained_of i u = if is_chained u then function_at i (after_codes u) else None
