-- The unwind record of a function of an ARM64 image (ARM64 exception handling, .xdata records).
use Rattle.std.specs.Prelude.{ℕ, ◌+◌, ◌*◌, ◌/◌, ◌%◌, ◌^◌, ◌==◌, ◌&&◌, Bool, nat_lt, Option, None, Some, if◌then◌else◌}
use Rattle.pe_layout.specs.Image.{LaidOut, is_inside, number_at}
use Rattle.pe_unwind.specs.declared.arm_unwind.ArmUnwind.{ArmUnwind}

-- no count is in the first word, and so a second one has them
abbrev pub is_extended : ℕ → Bool
is_extended first = first / 2 ^ 22 == 0

-- of a header of these two words; the second one counts only if there is one
abbrev pub record_of : ℕ → ℕ → ℕ → ArmUnwind
record_of rva first second = record {
  rva = rva;
  function_length = 4 * (first % 2 ^ 18);
  version = first / 2 ^ 18 % 4;
  has_data = first / 2 ^ 20 % 2 == 1;
  has_single_epilog = first / 2 ^ 21 % 2 == 1;
  is_extended = is_extended first;
  epilog_count = if is_extended first then second % 2 ^ 16 else first / 2 ^ 22 % 32;
  code_words = if is_extended first then second / 2 ^ 16 % 256 else first / 2 ^ 27;
}

abbrev pub header_size : Bool → ℕ
header_size extended = if extended then 8 else 4

-- the record at an RVA, if its header is in the image
abbrev pub arm_unwind_at : LaidOut → ℕ → Option ArmUnwind
arm_unwind_at i rva =
    if is_inside i rva 4 && is_inside i rva (header_size (is_extended (number_at 4 i rva)))
    then Some (record_of rva (number_at 4 i rva) (number_at 4 i (rva + 4))) else None

-- the codes are after the header, and after a word for each epilog unless there is a single one
abbrev pub codes_start : ArmUnwind → ℕ
codes_start u = u.rva + header_size u.is_extended + (if u.has_single_epilog then 0 else 4 * u.epilog_count)

abbrev pub has_codes : LaidOut → ArmUnwind → Bool
has_codes i u = is_inside i (codes_start u) (4 * u.code_words)

-- a byte of them
abbrev pub arm_code_at : LaidOut → ArmUnwind → ℕ → Option ℕ
arm_code_at i u k = if has_codes i u && nat_lt k (4 * u.code_words) then Some (i.byte (codes_start u + k)) else None

-- the RVA of the handler is after the codes
abbrev pub handler_start : ArmUnwind → ℕ
handler_start u = codes_start u + 4 * u.code_words

abbrev pub arm_handler_of : LaidOut → ArmUnwind → Option ℕ
arm_handler_of i u = if u.has_data && is_inside i (handler_start u) 4 then Some (number_at 4 i (handler_start u)) else None
