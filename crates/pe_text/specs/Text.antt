-- Numbers and strings as lines show them.
use Rattle.std.specs.Prelude.{ℕ, ◌+◌, ◌/◌, ◌%◌, ◌^◌, ◌==◌, ◌&&◌, not, Bool, nat_lt, nat_le, min, max, if◌then◌else◌, zero, suc, List, [], ◌∷◌, ◌++◌, codes, flat_map}

-- a hexadecimal digit, in lower case
abbrev pub glyph : ℕ → ℕ
glyph d = if nat_lt d 10 then 48 + d else 87 + d

-- the last `width` hexadecimal digits of a number
unfoldable pub hex : ℕ → ℕ → List ℕ
hex zero n = []
hex (suc k) n = glyph (n / 16 ^ k % 16) ∷ hex k n

-- the least width, from a given one to `more` above it, that has room for the number
unfoldable pub width_from : ℕ → ℕ → ℕ → ℕ
width_from zero width n = width
width_from (suc more) width n = if nat_lt n (16 ^ width) then width else width_from more (width + 1) n

-- how many hexadecimal digits a number of at most 16 has
abbrev pub hex_width : ℕ → ℕ
hex_width n = width_from 15 1 n

-- a number in `least` hexadecimal digits, or in more if it needs them, and in 16 at most
abbrev pub hex_at_least : ℕ → ℕ → List ℕ
hex_at_least least n = hex (min (max (hex_width n) least) 16) n

-- the byte is printable ASCII
abbrev pub is_printable : ℕ → Bool
is_printable byte = nat_le 0x20 byte && nat_le byte 0x7e

-- the byte needs no escape in a quoted string: it is printable, no quote and no backslash
abbrev pub is_plain : ℕ → Bool
is_plain byte = nat_le 0x20 byte && nat_le byte 0x7e && not (byte == 0x22) && not (byte == 0x5c)

-- a byte of a quoted string: itself, or `\x` and two digits
unfoldable pub escaped : ℕ → List ℕ
escaped byte = if is_plain byte then byte ∷ [] else (codes "\\x" ++ hex 2 byte)

-- a string in double quotes
unfoldable pub quoted : List ℕ → List ℕ
quoted text = codes "\"" ++ flat_map escaped text ++ codes "\""

-- the text of each row of a table, by its number, in order; the first row has the number n
abbrev pub numbered : {Row : Type 0} → (ℕ → Row → List ℕ) → ℕ → List Row → List ℕ
numbered line n [] = []
numbered line n (row ∷ rows) = line n row ++ numbered line (n + 1) rows
