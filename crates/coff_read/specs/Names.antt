-- Names of sections and symbols ("PE Format": Section Table, Symbol Name Representation).
use Rattle.std.specs.Prelude.{ℕ, ◌+◌, ◌-◌, ◌*◌, ◌==◌, ◌&&◌, ◌||◌, Bool, List, [], ◌∷◌, ◌++◌, length, drop, replicate, map, Option, None, Some, nat_le, nat_lt, if◌then◌else◌}
use Rattle.std.specs.List.{list_all}
use Rattle.std.specs.Option.{unwrap_or}
use Rattle.std.specs.Int.Digits.{digits_of}
use Rattle.pe_view.specs.Number.{part}
use Rattle.pe_view.specs.Text.{zero_ended}
use Rattle.coff_read.specs.Field.{field}
use Rattle.coff_read.specs.Strings.{string_at}

-- the bytes before the first zero byte, or all of them
abbrev pub up_to_zero : List ℕ → List ℕ
up_to_zero bytes = unwrap_or (zero_ended bytes) bytes

-- the decimal digits of a number above 0
abbrev pub decimal_digits : ℕ → List ℕ
decimal_digits n = map (λ digit. 48 + digit) (digits_of 10 n)

abbrev pub is_digit : ℕ → Bool
is_digit byte = nat_le 48 byte && nat_le byte 57

-- the number that decimal digits write, after those of another number
abbrev pub decimal_value : ℕ → List ℕ → ℕ
decimal_value n [] = n
decimal_value n (digit ∷ digits) = decimal_value (n * 10 + (digit - 48)) digits

-- one or more decimal digits, padded with zero bytes
abbrev pub is_number_field : List ℕ → Bool
is_number_field bytes =
    nat_lt 0 (length (up_to_zero bytes))
    && (list_all is_digit (up_to_zero bytes) && list_all (λ byte. byte == 0) (drop (length (up_to_zero bytes)) bytes))

-- the offset in a section's name field, if it has one: `/` and decimal digits
abbrev pub name_offset : List ℕ → Option ℕ
name_offset [] = None
name_offset (byte ∷ bytes) = if byte == 47 && is_number_field bytes then Some (decimal_value 0 (up_to_zero bytes)) else None

abbrev pub section_text : List ℕ → List ℕ → Option ℕ → Option (List ℕ)
section_text file field None = Some (up_to_zero field)
section_text file field (Some offset) = string_at file offset

-- the name of the section whose header is at a file offset
abbrev pub section_name : List ℕ → ℕ → Option (List ℕ)
section_name file h = section_text file (part file h 8) (name_offset (part file h 8))

-- the name of the symbol whose record is at a file offset
abbrev pub symbol_name : List ℕ → ℕ → Option (List ℕ)
symbol_name file at =
    if field file at 0 4 == 0
    then (if field file at 4 4 == 0 then Some [] else string_at file (field file at 4 4))
    else Some (up_to_zero (part file at 8))

-- padded with zero bytes to eight
abbrev pub padded : List ℕ → List ℕ
padded bytes = bytes ++ replicate (8 - length bytes) 0

-- whether a name is stored in the string table
abbrev pub is_long : List ℕ → Bool
is_long name = nat_lt 8 (length name)

abbrev pub begins_with_slash : List ℕ → Bool
begins_with_slash [] = nat_lt 0 0
begins_with_slash (byte ∷ bytes) = byte == 47

abbrev pub is_long_section_name : List ℕ → Bool
is_long_section_name name = is_long name || begins_with_slash name
