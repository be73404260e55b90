-- The members of an archive ("PE Format", Archive (Library) File Format): a signature of 8 bytes, and members one behind the
-- other, each a header of 60 bytes and its bytes, from the next even offset on.
use Rattle.std.specs.Prelude.{ℕ, zero, suc, ◌+◌, ◌-◌, ◌%◌, ◌==◌, ◌&&◌, ◌||◌, Bool, true, false, not, min, List, [], ◌∷◌, length, Option, None, Some, Result, Ok, Err, is_none, nat_le, nat_lt, if◌then◌else◌}
use Rattle.std.specs.Option.{unwrap_or}
use Rattle.std.specs.Str.{bytes_eq}
use Rattle.pe_view.specs.declared.fault.Fault.{Fault}
use Rattle.pe_view.specs.declared.fault.Place.TheVariants.{File}
use Rattle.pe_view.specs.Faults.{Test, test, first_standing}
use Rattle.pe_view.specs.Number.{num, byte_of, part}
use Rattle.coff_archive.specs.Bytes.{is_digit, decimal, number_in}

-- a member, with texts and bytes as lists
pub record Member : Type 0 where
  -- where its header begins
  pub offset : ℕ
  -- the name field, as it is
  pub field : List ℕ
  -- how many bytes the header gives it
  pub size : ℕ
  -- those of them that the file holds: all, or none of a member of a thin archive
  pub bytes : List ℕ

-- how a file begins: `!<arch>` and a line end, or `!<thin>` and one, where the bytes of members stand in files of their own
abbrev pub signature : List ℕ
signature = 33 ∷ 60 ∷ 97 ∷ 114 ∷ 99 ∷ 104 ∷ 62 ∷ 10 ∷ []

abbrev pub thin_signature : List ℕ
thin_signature = 33 ∷ 60 ∷ 116 ∷ 104 ∷ 105 ∷ 110 ∷ 62 ∷ 10 ∷ []

-- whether an archive is a thin one; none where the file is no archive
abbrev pub thinness : List ℕ → Option Bool
thinness file =
    if bytes_eq (part file 0 8) signature then Some false
    else (if bytes_eq (part file 0 8) thin_signature then Some true else None)

abbrev pub name_field : List ℕ → ℕ → List ℕ
name_field file at = part file at 16

abbrev pub size_field : List ℕ → ℕ → Option ℕ
size_field file at = decimal (part file (at + 48) 10)

-- the number that a field of the header at an offset holds in digits of a radix; none where the file has no whole header there
abbrev pub header_number : ℕ → List ℕ → ℕ → ℕ → ℕ → Option ℕ
header_number radix file at place len = if nat_le (at + 60) (length file) then number_in radix (part file (at + place) len) else None

-- when a member was written, in seconds since 1970; who owns it; and how it may be used, in octal digits
abbrev pub date_of : List ℕ → ℕ → Option ℕ
date_of file at = header_number 10 file at 16 12

abbrev pub user_of : List ℕ → ℕ → Option ℕ
user_of file at = header_number 10 file at 28 6

abbrev pub group_of : List ℕ → ℕ → Option ℕ
group_of file at = header_number 10 file at 34 6

abbrev pub mode_of : List ℕ → ℕ → Option ℕ
mode_of file at = header_number 8 file at 40 8

-- a member that the archive keeps for itself: `/` and no decimal digit
abbrev pub is_special : List ℕ → Bool
is_special field = byte_of field 0 == 47 && not (is_digit 10 (byte_of field 1))

-- how many bytes the file holds behind the header at an offset, where it says so many
abbrev pub held : Bool → List ℕ → ℕ → ℕ
held thin field size = if thin && not (is_special field) then 0 else size

abbrev pub held_at : Bool → List ℕ → ℕ → ℕ
held_at thin file at = held thin (name_field file at) (unwrap_or (size_field file at) 0)

-- a row of the table: a number, a file offset, and the condition
abbrev pub at_offset : ℕ → ℕ → Bool → Test
at_offset number offset stands = test number 0 (File offset) stands

-- no header stands at an offset: the file has not its bytes, or they have another end
abbrev pub is_no_header : List ℕ → ℕ → Bool
is_no_header file at = nat_lt (length file) (at + 60) || not (num (byte_of file) (at + 58) 2 == 0x0a60)

-- of the header at an offset: it passes the file or has another end; its size is no decimal number; its bytes pass the file
abbrev pub header_tests : Bool → List ℕ → ℕ → List Test
header_tests thin file at =
    at_offset 301 at (is_no_header file at)
    ∷ at_offset 302 at (is_none (size_field file at))
    ∷ at_offset 303 at (nat_lt (length file) (at + 60 + held_at thin file at))
    ∷ []

-- the member of a size whose header stands at an offset
abbrev pub member_of : Bool → List ℕ → ℕ → ℕ → Member
member_of thin file at size = record {
  offset = at;
  field = name_field file at;
  size = size;
  bytes = part file (at + 60) (held thin (name_field file at) size);
}

abbrev pub member_in : Bool → List ℕ → ℕ → Member
member_in thin file at = member_of thin file at (unwrap_or (size_field file at) 0)

-- the first even offset from one on, or the end of the file
abbrev pub even_from : List ℕ → ℕ → ℕ
even_from file end = min (length file) (end + end % 2)

abbrev pub next_of : Bool → List ℕ → ℕ → ℕ
next_of thin file at = even_from file (at + 60 + held_at thin file at)

abbrev pub read_by : Option Fault → Member → Result Member Fault
read_by None m = Ok m
read_by (Some fault) m = Err fault

-- the member at an offset, or the first fault of its header
abbrev pub read_at : Bool → List ℕ → ℕ → Result Member Fault
read_at thin file at = read_by (first_standing (header_tests thin file at)) (member_in thin file at)

-- the members from an offset on, at most so many; where a header has a fault, that ends them
abbrev pub walk_from : Bool → List ℕ → ℕ → ℕ → List (Result Member Fault)
walk_from thin file zero at = []
walk_from thin file (suc most) at =
    if nat_le (length file) at then []
    else read_at thin file at ∷ (if is_none (first_standing (header_tests thin file at)) then walk_from thin file most (next_of thin file at) else [])

-- all of them: there are no more than bytes
abbrev pub walk : Bool → List ℕ → ℕ → List (Result Member Fault)
walk thin file at = walk_from thin file (length file - at) at

-- the members of an archive's file
abbrev pub members : Bool → List ℕ → List (Result Member Fault)
members thin file = walk thin file 8
