-- Texts in UTF-16 as a line of JSON has them.
use Rattle.std.specs.Prelude.{ℕ, List, map, if◌then◌else◌}
use lib.Utf8.{scalar}
use Rattle.std.specs.Str.{encode_utf8_all}
use Rattle.pe_version.specs.Units.{characters}

-- the number is that of a character, as each of two bytes is, or U+FFFD stands for it
abbrev pub character : ℕ → ℕ
character c = if scalar c then c else 0xFFFD

-- characters in UTF-8
unfoldable pub utf8_characters : List ℕ → List ℕ
utf8_characters cs = encode_utf8_all (map character cs)

-- those of a text in UTF-16, with U+FFFD for each half of a pair that stands alone
abbrev pub utf8_text : List ℕ → List ℕ
utf8_text bytes = utf8_characters (characters bytes)
