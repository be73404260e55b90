-- Characters in UTF-8, one after the other.
use Rattle.std.proofs.Common.{◌≡◌, ◌∙◌, ◌++◌, ◌∷◌, [], List, ℕ, true, ap, refl, sym, map, IsUtf8, append-nil, inl, inr}
use lib.Utf8.{scalar, scalars}
use Rattle.std.specs.Char.{encode_utf8}
use Rattle.std.specs.Str.{encode_utf8_all}
use Rattle.std.proofs.lemmas.Bool.{and_from, cases_Bool}
use Rattle.std.proofs.lemmas.Grind.{flat_map-append}
use Rattle.std.proofs.lemmas.List.{map-append}
use Rattle.std.proofs.lemmas.Str.{encodes-append}
use Rattle.pe_version.specs.Units.{characters}
use Rattle.pe_json.specs.Shown.{shown, shown_character}
use Rattle.pe_json.proofs.Shown.{shown-append, shown-none, shown_one}
use Rattle.pe_json.specs.Utf16.{character, utf8_characters, utf8_text}

-- one that is a character
one_told : (c : ℕ) → scalar c ≡ true → utf8_characters (c ∷ []) ≡ encode_utf8 c
unfolding utf8_characters
one_told c is = rw is (append-nil (encode_utf8 c))

is_scalar : (c : ℕ) → scalar (character c) ≡ true
is_scalar c = elim (cases_Bool (scalar c)) [ inl is ↦ rw is is | inr other ↦ rw other refl ]

are_scalars : (cs : List ℕ) → scalars (map character cs) ≡ true
are_scalars [] = refl
are_scalars (c ∷ cs) = and_from _ _ (is_scalar c) (are_scalars cs)

pub none_told : shown (utf8_characters []) ≡ []
unfolding utf8_characters
none_told = shown-none

-- and more of them
pub character_more : (cs ds : List ℕ) → shown (utf8_characters cs) ++ shown (utf8_characters ds) ≡ shown (utf8_characters (cs ++ ds))
unfolding utf8_characters
character_more cs ds =
    sym (ap shown (ap encode_utf8_all (map-append character cs ds) ∙ encodes-append (map character cs) (map character ds))
    ∙ shown-append (encode_utf8_all (map character cs)) (encode_utf8_all (map character ds)) (map character cs, (are_scalars cs, refl)))

-- the text of one
pub one_shown : (c : ℕ) → scalar c ≡ true → shown (utf8_characters (c ∷ [])) ≡ shown_character c
one_shown c is = ap shown (one_told c is) ∙ shown_one c is

-- a text is UTF-8, whatever the bytes are
pub text_is_utf8 : (bytes : List ℕ) → IsUtf8 (utf8_text bytes)
unfolding utf8_characters
text_is_utf8 bytes = (map character (characters bytes), (are_scalars (characters bytes), refl))
