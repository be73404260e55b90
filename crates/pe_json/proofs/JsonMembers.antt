-- The members and the strings of a line are those of JSON.
use Rattle.std.proofs.Common.{◌≡◌, ◌∙◌, ◌<◌, ◌/◌, ◌%◌, ◌^◌, ℕ, zero, suc, Bool, true, false, List, [], ◌∷◌, ◌++◌, codes, decimal, refl, ap, ap₂, subst, append_assoc, flat_map, map, ◌+◌, IsUtf8, arith, Option, None, Some}
use Rattle.std.specs.Prelude.{⊤, nat_lt}
use Rattle.std.specs.Str.{is_utf8}
use Rattle.std.proofs.lemmas.Bool.{and_from}
use Rattle.std.proofs.lemmas.List.Folds.{list_all-append}
use Rattle.std.proofs.lemmas.Str.{IsUtf8-from_is_utf8}
use Rattle.std.proofs.lemmas.Grind.{flat_map-append, common_steps}
use Rattle.json.specs.Print.{quoted, escape, escape_byte}
use Rattle.pe_text.specs.Text.{glyph, hex, hex_at_least}
use Rattle.pe_json.specs.JsonText.{hex_string, member, number, number_if, name_as, name, wide, wide_string, text_if, address_string, numbered_rows}
use Rattle.pe_json.specs.Shown.{shown_string}
use Rattle.pe_json.proofs.Escapes.{itself}
use Rattle.pe_json.proofs.Printed.{IsValue, IsMember, AreValues, AreMembers, is_string, is_word, is_number}
use Rattle.pe_json.proofs.Shown.{are_ascii}

-- ---- texts of digits
-- a text of ASCII that no escape changes
record IsPlain (t : List ℕ) : Type 0 where
  same : escape t ≡ t
  ascii : are_ascii t ≡ true

no_text : IsPlain []
no_text = record { same = refl; ascii = refl }

plain_then : (t u : List ℕ) → IsPlain t → IsPlain u → IsPlain (t ++ u)
plain_then t u h k = record {
  same = flat_map-append escape_byte t u ∙ ap₂ (λ (xs ys : List ℕ). xs ++ ys) h.same k.same;
  ascii = list_all-append (λ byte. nat_lt byte 0x7f) t u ∙ and_from _ _ h.ascii k.ascii;
}

digit : (d : ℕ) → d < 16 → IsPlain (glyph d ∷ [])
digit d small = record {
  same = ap (λ (xs : List ℕ). xs ++ []) (itself (glyph d) (grind (arith, common_steps)));
  ascii = grind (arith, common_steps);
}

digits : (width n : ℕ) → IsPlain (hex width n)
unfolding hex
digits zero n = no_text
digits (suc k) n = plain_then (glyph (n / 16 ^ k % 16) ∷ []) (hex k n) (digit (n / 16 ^ k % 16) (omega arith)) (digits k n)

bytes_digits : (bytes : List ℕ) → IsPlain (flat_map (hex 2) bytes)
bytes_digits [] = no_text
bytes_digits (byte ∷ bytes) = plain_then (hex 2 byte) (flat_map (hex 2) bytes) (digits 2 byte) (bytes_digits bytes)

prefixed : (t : List ℕ) → IsPlain t → IsPlain (codes "0x" ++ t)
unfolding escape_byte
prefixed t h = plain_then (codes "0x") t (record { same = refl; ascii = refl }) h

plain_string : (limit : ℕ) (t : List ℕ) → IsPlain t → IsValue limit (34 ∷ (t ++ 34 ∷ []))
plain_string limit t h = subst (λ (xs : List ℕ). IsValue limit (34 ∷ (xs ++ 34 ∷ []))) h.same (is_word limit t h.ascii)

-- ---- members
-- the text is ASCII, by its bytes
abbrev pub IsAsciiText : List ℕ → Type 0
IsAsciiText t = are_ascii t ≡ true

pub is_member : (limit : ℕ) (key t : List ℕ) → IsAsciiText key → IsValue limit t → IsMember limit (member key t)
unfolding member
is_member limit key t key_ascii h = record { key = key; own = t; is = append_assoc (quoted key) (codes ":") t; key_ascii = key_ascii; holds = h }

pub number_member : (limit : ℕ) (key : List ℕ) (n : ℕ) → IsAsciiText key → IsMember limit (number key n)
number_member limit key n key_ascii = is_member limit key (decimal n) key_ascii (is_number limit n)

pub string_member : (limit : ℕ) (key t : List ℕ) → IsAsciiText key → IsUtf8 t → IsMember limit (member key (shown_string t))
string_member limit key t key_ascii utf8 = is_member limit key (shown_string t) key_ascii (is_string limit t utf8)

pub word_member : (limit : ℕ) (key t : List ℕ) → IsAsciiText key → IsAsciiText t → IsMember limit (member key (quoted t))
word_member limit key t key_ascii t_ascii = is_member limit key (quoted t) key_ascii (is_word limit t t_ascii)

pub hex_value : (limit : ℕ) (bytes : List ℕ) → IsValue limit (hex_string bytes)
unfolding hex_string
hex_value limit bytes = plain_string limit (flat_map (hex 2) bytes) (bytes_digits bytes)

name_by : (limit : ℕ) (b : Bool) (key t : List ℕ) → IsAsciiText key → IsAsciiText (key ++ codes "_hex") → (b ≡ true → IsUtf8 t) → IsMember limit (name_as b key t)
name_by limit true key t key_ascii hex_ascii utf8 = string_member limit key t key_ascii (utf8 refl)
name_by limit false key t key_ascii hex_ascii utf8 = is_member limit (key ++ codes "_hex") (hex_string t) hex_ascii (hex_value limit t)

pub name_member : (limit : ℕ) (key t : List ℕ) → IsAsciiText key → IsAsciiText (key ++ codes "_hex") → IsMember limit (name key t)
name_member limit key t key_ascii hex_ascii = name_by limit (is_utf8 t) key t key_ascii hex_ascii (λ e. IsUtf8-from_is_utf8 t e)

pub wide_value : (limit n : ℕ) → IsValue limit (wide_string n)
wide_value limit n = plain_string limit (codes "0x" ++ hex_at_least 1 n) (prefixed (hex_at_least 1 n) (digits _ n))

pub wide_member : (limit : ℕ) (key : List ℕ) (n : ℕ) → IsAsciiText key → IsMember limit (wide key n)
wide_member limit key n key_ascii = is_member limit key (wide_string n) key_ascii (wide_value limit n)

pub address_value : (limit n : ℕ) → IsValue limit (address_string n)
unfolding address_string
address_value limit n = plain_string limit (codes "0x" ++ hex 16 n) (prefixed (hex 16 n) (digits 16 n))

-- ---- members and items, one after the other
pub members_then : (limit : ℕ) (ts us : List (List ℕ)) → AreMembers limit ts → AreMembers limit us → AreMembers limit (ts ++ us)
members_then limit [] us h k = k
members_then limit (t ∷ ts) us h k = (h.0, members_then limit ts us h.1 k)

pub values_then : (limit : ℕ) (ts us : List (List ℕ)) → AreValues limit ts → AreValues limit us → AreValues limit (ts ++ us)
values_then limit [] us h k = k
values_then limit (t ∷ ts) us h k = (h.0, values_then limit ts us h.1 k)

-- a text is UTF-8, if there is one
abbrev pub IfUtf8 : Option (List ℕ) → Type 0
IfUtf8 None = ⊤
IfUtf8 (Some t) = IsUtf8 t

-- a string that may be left out
pub text_members : (limit : ℕ) (key : List ℕ) (t : Option (List ℕ)) → IsAsciiText key → IfUtf8 t → AreMembers limit (text_if key t)
unfolding text_if
text_members limit key None key_ascii utf8 = tt
text_members limit key (Some text) key_ascii utf8 = (string_member limit key text key_ascii utf8, tt)

-- a number that may be left out
pub number_if_members : (limit : ℕ) (key : List ℕ) (n : Option ℕ) → IsAsciiText key → AreMembers limit (number_if key n)
unfolding number_if
number_if_members limit key None key_ascii = tt
number_if_members limit key (Some n) key_ascii = (number_member limit key n key_ascii, tt)

-- ---- rows
pub row_values : {Row : Type 0} (limit : ℕ) (row : Row → List ℕ) (rows : List Row) → ((r : Row) → IsValue limit (row r)) → AreValues limit (map row rows)
row_values limit row [] each = tt
row_values limit row (r ∷ rows) each = (each r, row_values limit row rows each)

pub numbered_values : {Row : Type 0} (limit : ℕ) (row : ℕ → Row → List ℕ) (n : ℕ) (rows : List Row) → ((index : ℕ) (r : Row) → IsValue limit (row index r)) → AreValues limit (numbered_rows row n rows)
numbered_values limit row n [] each = tt
numbered_values limit row n (r ∷ rows) each = (each n r, numbered_values limit row (n + 1) rows each)

pub flat_values : {Row : Type 0} (limit : ℕ) (items : Row → List (List ℕ)) (rows : List Row) → ((r : Row) → AreValues limit (items r)) → AreValues limit (flat_map items rows)
flat_values limit items [] each = tt
flat_values limit items (r ∷ rows) each = values_then limit (items r) (flat_map items rows) (each r) (flat_values limit items rows each)

pub flat_members : {Row : Type 0} (limit : ℕ) (items : Row → List (List ℕ)) (rows : List Row) → ((r : Row) → AreMembers limit (items r)) → AreMembers limit (flat_map items rows)
flat_members limit items [] each = tt
flat_members limit items (r ∷ rows) each = members_then limit (items r) (flat_map items rows) (each r) (flat_members limit items rows each)
