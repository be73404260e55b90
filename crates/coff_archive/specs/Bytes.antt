-- Texts and numbers in the fields of an archive.
use Rattle.std.specs.Prelude.{ℕ, ◌+◌, ◌-◌, ◌*◌, ◌==◌, ◌&&◌, Bool, List, [], ◌∷◌, length, drop, Option, None, Some, option_map, nat_le, nat_lt, if◌then◌else◌}
use Rattle.std.specs.List.{list_all}
use Rattle.std.specs.Option.{unwrap_or}
use Rattle.pe_view.specs.Number.{num, byte_of}

-- the bytes before the first that passes a test, where one does
abbrev pub before : (ℕ → Bool) → List ℕ → Option (List ℕ)
before test [] = None
before test (b ∷ bytes) = if test b then Some [] else option_map (λ text. b ∷ text) (before test bytes)

-- those, or all bytes where none passes
abbrev pub up_to : (ℕ → Bool) → List ℕ → List ℕ
up_to test bytes = unwrap_or (before test bytes) bytes

abbrev pub is_blank : ℕ → Bool
is_blank byte = byte == 32

-- a digit of a radix of 10 at most
abbrev pub is_digit : ℕ → ℕ → Bool
is_digit radix byte = nat_le 48 byte && nat_lt byte (48 + radix)

-- the number that digits write, behind those of another number
abbrev pub digits_value : ℕ → ℕ → List ℕ → ℕ
digits_value radix n [] = n
digits_value radix n (digit ∷ digits) = digits_value radix (n * radix + (digit - 48)) digits

-- one or more digits, filled up with blanks
abbrev pub is_number : ℕ → List ℕ → Bool
is_number radix bytes =
    nat_lt 0 (length (up_to is_blank bytes))
    && (list_all (is_digit radix) (up_to is_blank bytes) && list_all is_blank (drop (length (up_to is_blank bytes)) bytes))

-- the number that a field holds in digits of a radix
abbrev pub number_in : ℕ → List ℕ → Option ℕ
number_in radix bytes = if is_number radix bytes then Some (digits_value radix 0 (up_to is_blank bytes)) else None

abbrev pub decimal : List ℕ → Option ℕ
decimal = number_in 10

-- the number in the 4 bytes at an offset, the highest byte first
abbrev pub big : List ℕ → ℕ → ℕ
big bytes offset = num (λ k. byte_of bytes (offset + 3 - k)) 0 4
