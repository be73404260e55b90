-- Strings of JSON that show what they hold: a character that terminals and editors obey, or that nobody sees, is a `\u` escape.
use Rattle.std.specs.Prelude.{ℕ, Bool, not, List, ◌++◌, codes, flat_map, nat_le, ◌==◌, ◌&&◌, ◌||◌, if◌then◌else◌}
use Rattle.std.specs.List.{list_all}
use Rattle.std.specs.Char.{encode_utf8}
use Rattle.std.specs.Str.{chars}
use Rattle.json.specs.Print.{escape}
use Rattle.pe_text.specs.Text.{hex}

-- Delete and the control characters after it, the separators of lines and of paragraphs, what changes the direction of text (U+202A to
-- U+202E and U+2066 to U+2069), and the byte order mark. Control characters below U+0020 have escapes in each JSON.
abbrev pub is_hidden : ℕ → Bool
is_hidden c = (nat_le 0x7f c && nat_le c 0x9f) || (nat_le 0x2028 c && nat_le c 0x202e) || (nat_le 0x2066 c && nat_le c 0x2069) || (c == 0xfeff)

-- a character of a string
unfoldable pub shown_character : ℕ → List ℕ
shown_character c = if is_hidden c then codes "\\u" ++ hex 4 c else escape (encode_utf8 c)

-- the characters of a text in UTF-8
unfoldable pub shown : List ℕ → List ℕ
shown text = flat_map shown_character (chars text)

-- and as a string
abbrev pub shown_string : List ℕ → List ℕ
shown_string text = codes "\"" ++ shown text ++ codes "\""

-- a text in UTF-8 has no hidden character
abbrev pub has_none_hidden : List ℕ → Bool
has_none_hidden text = list_all (λ c. not (is_hidden c)) (chars text)
