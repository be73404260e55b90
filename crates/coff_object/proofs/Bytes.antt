-- The fields of bytes at an offset of a file.
use Rattle.std.proofs.Common.{◌≡◌, ℕ, ◌+◌, ◌≤◌, List, length, Some, ap, ◌∙◌, arith}
use Rattle.std.specs.List.{AllByRecursion}
use Rattle.pe_view.specs.Number.{num, byte_of}
use Rattle.pe_numbers.specs.declared.number.Number.{Number}
use Rattle.pe_numbers.specs.Numbers.{NumberFits, beginning_at, numbers_bytes, value_of, width_of}
use Rattle.pe_numbers.specs.ReadBack.{number_read}
use Rattle.pe_numbers.specs.StandsAt.{StandsAt, stands_num}
use Rattle.coff_read.specs.Field.{field}

-- a number that was written
pub field_read : (file : List ℕ) (place : ℕ) (ns : List Number) (offset : ℕ) (x : Number) → AllByRecursion NumberFits ns → StandsAt file place (numbers_bytes ns) → beginning_at ns offset ≡ Some x
    → field file place offset (width_of x) ≡ value_of x
unfolding field
field_read file place ns offset x fits there at = number_read file place ns offset x fits there at

-- a field of any bytes
pub field_in : (file : List ℕ) (place : ℕ) (bytes : List ℕ) (offset width : ℕ) → StandsAt file place bytes → offset + width ≤ length bytes → field file place offset width ≡ num (byte_of bytes) offset width
unfolding field
field_in file place bytes offset width there inside = stands_num file place bytes offset width there inside

-- a number that was written after the eight bytes of a record's name
pub field_read-behind : (file : List ℕ) (place : ℕ) (ns : List Number) (offset : ℕ) (x : Number) → AllByRecursion NumberFits ns → StandsAt file (place + 8) (numbers_bytes ns) → beginning_at ns offset ≡ Some x
    → field file place (8 + offset) (width_of x) ≡ value_of x
unfolding field
field_read-behind file place ns offset x fits there at =
    let same : place + (8 + offset) ≡ place + 8 + offset = omega arith in
    ap (λ (n : ℕ). num (byte_of file) n (width_of x)) same ∙ number_read file (place + 8) ns offset x fits there at
