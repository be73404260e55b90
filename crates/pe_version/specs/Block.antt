-- The parts of a block, by where it starts and ends: three numbers of two bytes, its length, that of its value and a type; a key that a
-- zero ends; and from the next multiple of 4 on its value, or the blocks in it.
use Rattle.std.specs.Prelude.{ℕ, ◌+◌, ◌-◌, ◌*◌, ◌/◌, Bool, nat_lt, min, List, codes}
use Rattle.std.specs.Str.{bytes_eq}
use Rattle.pe_view.specs.Number.{part}
use Rattle.pe_version.specs.Blocks.{word, aligned}
use Rattle.pe_version.specs.Parts.{units_before_zero, utf16}
use Rattle.pe_version.specs.declared.block.Block.{Block}

-- where the code's block starts and ends
abbrev pub place_of : Block → ℕ × ℕ
place_of b = (b.start, b.end)

-- how many units there are after the three numbers
abbrev pub unit_count : ℕ × ℕ → ℕ
unit_count b = (b.1 - (b.0 + 6)) / 2

abbrev pub key_units : List ℕ → ℕ × ℕ → ℕ
key_units bytes b = units_before_zero bytes (b.0 + 6) (unit_count b)

abbrev pub key_in : List ℕ → ℕ × ℕ → List ℕ
key_in bytes b = part bytes (b.0 + 6) (2 * key_units bytes b)

-- a zero ends the key
abbrev pub has_key_end : List ℕ → ℕ × ℕ → Bool
has_key_end bytes b = nat_lt (key_units bytes b) (unit_count b)

-- where the value begins, or the first block in this one
abbrev pub body_of : List ℕ → ℕ × ℕ → ℕ
body_of bytes b = min (aligned (b.0 + 8 + 2 * key_units bytes b)) b.1

-- how many units the value has: those before a zero, and no more than the block says
abbrev pub value_units : List ℕ → ℕ × ℕ → ℕ
value_units bytes b = units_before_zero bytes (body_of bytes b) (min (word bytes (b.0 + 2)) ((b.1 - body_of bytes b) / 2))

abbrev pub value_in : List ℕ → ℕ × ℕ → List ℕ
value_in bytes b = part bytes (body_of bytes b) (2 * value_units bytes b)

-- it holds tables of strings
abbrev pub is_string_file_info : List ℕ → ℕ × ℕ → Bool
is_string_file_info bytes b = bytes_eq (key_in bytes b) (utf16 (codes "StringFileInfo"))
