-- JSON text (RFC 8259) without blanks: strings, members, objects and lists.
use Rattle.std.specs.Prelude.{ℕ, ◌+◌, Bool, true, false, List, [], ◌∷◌, ◌++◌, codes, decimal, flat_map, Option, None, Some}
use Rattle.std.specs.Str.{is_utf8}
use Rattle.json.specs.Print.{quoted}
use Rattle.pe_text.specs.Text.{hex, hex_at_least}
use Rattle.pe_json.specs.Shown.{shown_string}

-- texts one after the other, with a comma between two
unfoldable pub with_commas : List (List ℕ) → List ℕ
with_commas [] = []
with_commas (text ∷ []) = text
with_commas (text ∷ next ∷ texts) = text ++ (codes "," ++ with_commas (next ∷ texts))

-- A key, and a string that no file has a say in, is `quoted` of the crate json: these are ASCII. Any other string is `shown_string`.

-- bytes: a string of two hexadecimal digits each
unfoldable pub hex_string : List ℕ → List ℕ
hex_string bytes = codes "\"" ++ flat_map (hex 2) bytes ++ codes "\""

unfoldable pub member : List ℕ → List ℕ → List ℕ
member key value = quoted key ++ codes ":" ++ value

unfoldable pub object : List (List ℕ) → List ℕ
object members = codes "{" ++ with_commas members ++ codes "}"

unfoldable pub list : List (List ℕ) → List ℕ
list items = codes "[" ++ with_commas items ++ codes "]"

abbrev pub number : List ℕ → ℕ → List ℕ
number key n = member key (decimal n)

-- a name: a string if it is UTF-8, else its bytes under the key that ends in `_hex`
abbrev pub name_as : Bool → List ℕ → List ℕ → List ℕ
name_as true key text = member key (shown_string text)
name_as false key text = member (key ++ codes "_hex") (hex_string text)

abbrev pub name : List ℕ → List ℕ → List ℕ
name key text = name_as (is_utf8 text) key text

-- a number of 64 bits: a string of `0x` and hexadecimal digits
abbrev pub wide : List ℕ → ℕ → List ℕ
wide key n = member key (codes "\"0x" ++ (hex_at_least 1 n ++ codes "\""))

-- the same without a key
abbrev pub wide_string : ℕ → List ℕ
wide_string n = codes "\"0x" ++ (hex_at_least 1 n ++ codes "\"")

-- a string that may be left out, with its key
unfoldable pub text_if : List ℕ → Option (List ℕ) → List (List ℕ)
text_if key None = []
text_if key (Some text) = member key (shown_string text) ∷ []

-- a number that may be left out, with its key
unfoldable pub number_if : List ℕ → Option ℕ → List (List ℕ)
number_if key None = []
number_if key (Some n) = number key n ∷ []

-- one of 64 bits that may be left out, with its key
unfoldable pub wide_if : List ℕ → Option ℕ → List (List ℕ)
wide_if key None = []
wide_if key (Some n) = wide key n ∷ []

abbrev pub boolean : Bool → List ℕ
boolean true = codes "true"
boolean false = codes "false"

-- an address: a string of `0x` and 16 digits
unfoldable pub address_string : ℕ → List ℕ
address_string n = codes "\"0x" ++ hex 16 n ++ codes "\""

-- a text for each row, by its number, of which the first is n
abbrev pub numbered_rows : {Row : Type 0} → (ℕ → Row → List ℕ) → ℕ → List Row → List (List ℕ)
numbered_rows row n [] = []
numbered_rows row n (r ∷ rows) = row n r ∷ numbered_rows row (n + 1) rows
