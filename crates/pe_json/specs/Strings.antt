-- What the strings of JSON are made of.
use Rattle.std.specs.Prelude.{ℕ, Bool, true, false, List, [], ◌++◌, codes, decimal, flat_map, Option, None, Some, not, nat_le, ◌==◌, ◌&&◌}
use Rattle.std.specs.Str.{is_utf8}
use Rattle.pe_text.specs.Text.{hex, hex_at_least}
use Rattle.pe_json.specs.Shown.{shown, shown_string}

-- the byte stands for itself, whatever follows it: it is no control character, no quote and no backslash, and begins no hidden character
abbrev pub is_plain : ℕ → Bool
is_plain byte = nat_le 0x20 byte && not (byte == 0x22) && not (byte == 0x5c) && not (byte == 0x7f) && not (byte == 0xc2) && not (byte == 0xe2) && not (byte == 0xef)

-- a name behind the one key or the other, with a quote at its end
abbrev pub name_value : Bool → List ℕ → List ℕ → List ℕ → List ℕ
name_value true key key_hex text = key ++ shown text ++ codes "\""
name_value false key key_hex text = key_hex ++ flat_map (hex 2) text ++ codes "\""

-- a name behind the one key or the other, if there is one
abbrev pub name_value_if : List ℕ → List ℕ → Option (List ℕ) → List ℕ
name_value_if key key_hex None = []
name_value_if key key_hex (Some text) = name_value (is_utf8 text) key key_hex text

-- a string after a key, if there is one
abbrev pub value_if : List ℕ → Option (List ℕ) → List ℕ
value_if key None = []
value_if key (Some text) = key ++ shown_string text

-- a number after a key, if there is one
abbrev pub number_value_if : List ℕ → Option ℕ → List ℕ
number_value_if key None = []
number_value_if key (Some n) = key ++ decimal n

-- hexadecimal digits after a key, with a quote at their end, if there is a number
abbrev pub wide_value_if : List ℕ → Option ℕ → List ℕ
wide_value_if key None = []
wide_value_if key (Some n) = key ++ (hex_at_least 1 n ++ codes "\"")
