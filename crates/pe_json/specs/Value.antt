-- What a line of JSON is to a reader of JSON (RFC 8259): the text of a value, as the crate json reads it.
use Rattle.std.specs.Prelude.{◌≡◌, ◌≤◌, ℕ, Bool, true, false, List, [], ◌∷◌, ◌++◌, decimal, nat_le, ⊤}
use Rattle.std.specs.List.{list_all}
use Rattle.std.specs.Str.{IsUtf8}
use Rattle.json.specs.Json.{Json, null, boolean, number, string, array, object, Items, no_items, item, Members, no_members, member, max_depth}
use Rattle.json.specs.Token.{Token}
use Rattle.json.specs.Print as json
use Rattle.json.specs.Print.{separator, ends}
use Rattle.json.specs.Tree.{json_tokens, depth}
use Rattle.pe_json.specs.Shown.{shown_string, has_none_hidden}

-- a token as the crate json writes it, except for a string
abbrev pub token_text : Token → List ℕ
token_text (Token.string text) = shown_string text
token_text Token.begin_object = json.token_text Token.begin_object
token_text Token.end_object = json.token_text Token.end_object
token_text Token.begin_array = json.token_text Token.begin_array
token_text Token.end_array = json.token_text Token.end_array
token_text (Token.key name) = json.token_text (Token.key name)
token_text (Token.number digits) = json.token_text (Token.number digits)
token_text (Token.boolean b) = json.token_text (Token.boolean b)
token_text Token.null = json.token_text Token.null
token_text Token.bad = json.token_text Token.bad

-- tokens without blanks, after a value or not
unfoldable pub print_from : Bool → List Token → List ℕ
print_from after_value [] = []
print_from after_value (token ∷ tokens) = separator after_value token ++ (token_text token ++ print_from (ends token) tokens)

-- each number in a value is written as the decimal digits of a natural number, and each string is UTF-8
abbrev mutual
  pub HasPlainLeaves : Json → Type 0
  HasPlainLeaves null = ⊤
  HasPlainLeaves (boolean b) = ⊤
  HasPlainLeaves (number text) = (n : ℕ) × (text ≡ decimal n)
  HasPlainLeaves (string text) = IsUtf8 text
  HasPlainLeaves (array items) = ItemsHavePlainLeaves items
  HasPlainLeaves (object members) = MembersHavePlainLeaves members

  pub ItemsHavePlainLeaves : Items → Type 0
  ItemsHavePlainLeaves no_items = ⊤
  ItemsHavePlainLeaves (item value items) = HasPlainLeaves value × ItemsHavePlainLeaves items

  pub MembersHavePlainLeaves : Members → Type 0
  MembersHavePlainLeaves no_members = ⊤
  MembersHavePlainLeaves (member key value members) = HasPlainLeaves value × MembersHavePlainLeaves members

-- A text is that of a value: it is what the value prints as, without blanks; it is UTF-8, and has no control character, so no line feed,
-- and no hidden character; and the value nests no deeper than the reader of the crate json follows.
pub record IsTextOf (value : Json) (text : List ℕ) : Type 0 where
  pub prints : print_from false (json_tokens value) ≡ text
  pub utf8 : IsUtf8 text
  pub one_line : list_all (nat_le 0x20) text ≡ true
  pub none_hidden : has_none_hidden text ≡ true
  pub shallow : depth value ≤ max_depth
  pub leaves : HasPlainLeaves value
