-- Names as a page shows them.
use Rattle.std.specs.Prelude.{ℕ, ◌+◌, ◌==◌, ◌&&◌, ◌||◌, not, Bool, false, nat_le, nat_lt, if◌then◌else◌, List, [], ◌∷◌, ◌++◌, codes, length, take}
use Rattle.std.specs.List.{list_all}
use Rattle.std.specs.Str.{chars, is_utf8}
use Rattle.pe_text.specs.Text.{quoted}

abbrev between : ℕ → ℕ → ℕ → Bool
between first last n = nat_le first n && nat_le n last

-- a character may be written to a terminal: not a control character, nor one that changes the direction of the text around it
abbrev pub is_safe : ℕ → Bool
is_safe c = not (between 0 0x1f c || between 0x7f 0x9f c || c == 0x61c || c == 0x200e || c == 0x200f || between 0x2028 0x202e c || between 0x2066 0x2069 c || c == 0xfeff)

-- a name is not empty and does not begin with a quote
abbrev pub begins_plain : List ℕ → Bool
begins_plain [] = false
begins_plain (byte ∷ bytes) = not (byte == 0x22)

-- a name is UTF-8, of characters that may be written to a terminal
abbrev pub is_safe_text : List ℕ → Bool
is_safe_text name = is_utf8 name && list_all is_safe (chars name)

-- a name is shown as it is
abbrev pub is_plain : List ℕ → Bool
is_plain name = begins_plain name && is_safe_text name

-- a name: as it is if it is plain, otherwise in quotes
unfoldable pub whole_text : List ℕ → List ℕ
whole_text name = if is_plain name then name else quoted name

-- how many columns it takes, one per character
unfoldable pub whole_columns : List ℕ → ℕ
whole_columns name = length (if is_plain name then chars name else quoted name)

-- the mark behind a name of more bytes than are shown
abbrev pub cut_mark : ℕ → List ℕ → List ℕ
cut_mark limit name = if nat_lt limit (length name) then codes ".." else []

-- at most so many bytes of a name, with a mark if there are more
abbrev pub cut_text : ℕ → List ℕ → List ℕ
cut_text limit name = whole_text (take limit name) ++ cut_mark limit name

-- any name
unfoldable pub name_text : List ℕ → List ℕ
name_text name = cut_text 4096 name

-- the name of a section, or a short word
unfoldable pub section_text : List ℕ → List ℕ
section_text name = cut_text 40 name

-- how many columns that takes
unfoldable pub section_columns : List ℕ → ℕ
section_columns name = whole_columns (take 40 name) + length (cut_mark 40 name)
