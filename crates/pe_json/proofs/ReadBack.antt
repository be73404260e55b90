-- What is printed of a value is read back as the value by the crate json.
use Rattle.std.proofs.Common.{◌≡◌, ◌∙◌, ◌<◌, ◌≤◌, ◌+◌, ◌*◌, ◌/◌, ◌%◌, ◌^◌, ℕ, Bool, true, false, cond, List, [], ◌∷◌, ◌++◌, codes, refl, sym, ap, ap₂, subst, append_assoc, append-nil, inl, inr, ◌⊎◌, arith, flat_map, Option, Some, None, option_and_then, IsUtf8}
use Rattle.std.specs.Prelude.{⊤, ◌&&◌}
use Rattle.std.specs.Char.{is_digit, digit_value}
use Rattle.std.specs.Str.{chars}
use Rattle.std.proofs.lemmas.Bool.{cases_lt, cases_eq, cases_Bool, ne_eqb, le-ltb}
use Rattle.std.proofs.lemmas.Grind.{common_steps}
use Rattle.std.proofs.lemmas.Str.{encode_ascii, encodes-chars}
use lib.Utf8.{encode, encodes}
use Rattle.json.specs.Json.{Json, null, boolean, number, string, array, object, Items, no_items, item, Members, no_members, member, value as json_value, if_last, max_depth, document}
use Rattle.json.specs.Token.{Token}
use Rattle.json.specs.Text.{content, plain, prepend, code_unit, short_escape, is_high_surrogate, is_low_surrogate}
use Rattle.json.specs.Word.{is_operator, is_space, ends_word, word}
use Rattle.json.specs.Lex.{Lexeme, token, comma, colon, Mode, lex, lex_byte, between, in_string, operator, space, other, string_token, punctuate, fresh, tokens}
use Rattle.json.specs.Print as json
use Rattle.json.specs.Print.{escape, escape_byte, escape_letter, quoted, separator, begins, ends, print, IsPrintable, ArePrintable}
use Rattle.json.specs.Tree.{json_tokens, items_tokens, members_tokens, HasNumbers}
use Rattle.json.proofs.Printed.Strings.{content-escape, lex-escape, escape_byte_plain}
use Rattle.json.proofs.Printed.Numbers.{lex-number, in_word-ended}
use Rattle.json.proofs.Printed.Tokens.{tokens-print}
use Rattle.json.proofs.Printed.Trees.{value-json_tokens, ArePrintable-json_tokens}
use Rattle.pe_text.specs.Text.{glyph, hex}
use Rattle.pe_json.specs.Shown.{is_hidden, shown_character, shown, shown_string}
use Rattle.pe_json.specs.Value.{token_text, print_from, HasPlainLeaves, ItemsHavePlainLeaves, MembersHavePlainLeaves, IsTextOf}
use Rattle.pe_json.proofs.Escapes.{control}

-- ---- four digits
digit : (d : ℕ) → d < 16 → (is_digit (glyph d) 16 ≡ true) × (digit_value (glyph d) ≡ d)
digit d small = (grind (arith, common_steps), grind (arith, common_steps))

unit : (a b c d : ℕ) → a < 16 → b < 16 → c < 16 → d < 16 → code_unit (glyph a) (glyph b) (glyph c) (glyph d) ≡ Some (a * 4096 + b * 256 + c * 16 + d)
unfolding code_unit
unit a b c d ha hb hc hd = rw ((digit a ha).0, (digit b hb).0, (digit c hc).0, (digit d hd).0, (digit a ha).1, (digit b hb).1, (digit c hc).1, (digit d hd).1) refl

stays_inside : (o s : Bool) (x : ℕ) (r : List ℕ) (k : Mode → List Lexeme) → lex_byte in_string (cond o operator (cond s space other)) x r k ≡ k in_string
stays_inside true s x r k = refl
stays_inside false true x r k = refl
stays_inside false false x r k = refl

-- neither a quote nor a backslash
inside : (x : ℕ) (r : List ℕ) → (x ≡ 34 → ⊥) → (x ≡ 92 → ⊥) → lex in_string (x ∷ r) ≡ lex in_string r
unfolding lex
inside x r q b = rw (ne_eqb x 34 q, ne_eqb x 92 b) (stays_inside (is_operator x) (is_space x) x r (λ m. lex m r))

glyph_inside : (d : ℕ) (r : List ℕ) → d < 16 → lex in_string (glyph d ∷ r) ≡ lex in_string r
glyph_inside d r small = inside (glyph d) r (λ e. grind (arith, common_steps)) (λ e. grind (arith, common_steps))

-- both readers pass over the escape of a character
record Passes (text bytes : List ℕ) : Type 0 where
  read : (r : List ℕ) → content plain (text ++ r) ≡ prepend bytes (content plain r)
  lexed : (r : List ℕ) → lex in_string (text ++ r) ≡ lex in_string r

no_high : (c : ℕ) → (c < 55296) ⊎ (57344 ≤ c) → is_high_surrogate c ≡ false
no_high c (inl low) = grind (arith, common_steps)
no_high c (inr high) = grind (arith, common_steps)

no_low : (c : ℕ) → (c < 55296) ⊎ (57344 ≤ c) → is_low_surrogate c ≡ false
no_low c (inl low) = grind (arith, common_steps)
no_low c (inr high) = grind (arith, common_steps)

read_unit : (c : ℕ) (r : List ℕ) → c < 65536 → (c < 55296) ⊎ (57344 ≤ c) → content plain (codes "\\u" ++ hex 4 c ++ r) ≡ prepend (encode c) (content plain r)
unfolding content hex
read_unit c r small legal =
    let a = c / 4096 % 16 in
    let b = c / 256 % 16 in
    let d = c / 16 % 16 in
    let e = c / 1 % 16 in
    let sum : a * 4096 + b * 256 + d * 16 + e ≡ c = omega (arith, small) in
    let is : code_unit (glyph a) (glyph b) (glyph d) (glyph e) ≡ Some c = unit a b d e (omega arith) (omega arith) (omega arith) (omega arith) ∙ ap (λ (n : ℕ). Some n) sum in
    rw (is, no_high c legal, no_low c legal) refl

lex_unit : (c : ℕ) (r : List ℕ) → lex in_string (codes "\\u" ++ hex 4 c ++ r) ≡ lex in_string r
unfolding lex hex
lex_unit c r =
    glyph_inside (c / 16 ^ 3 % 16) _ (omega arith) ∙ glyph_inside (c / 16 ^ 2 % 16) _ (omega arith) ∙ glyph_inside (c / 16 ^ 1 % 16) _ (omega arith) ∙ glyph_inside (c / 16 ^ 0 % 16) r (omega arith)

unit_passes : (c : ℕ) → c < 65536 → (c < 55296) ⊎ (57344 ≤ c) → Passes (codes "\\u" ++ hex 4 c) (encode c)
unit_passes c small legal = record { read = λ r. read_unit c r small legal; lexed = λ r. lex_unit c r }

-- ---- bytes
byte_unit : (byte : ℕ) → byte < 32 → codes "\\u00" ++ hex 2 byte ≡ codes "\\u" ++ hex 4 byte
unfolding hex
byte_unit byte small =
    let first : byte / 4096 % 16 ≡ 0 = omega (arith, small) in
    let second : byte / 256 % 16 ≡ 0 = omega (arith, small) in
    rw (first, second) refl

control_passes : (byte : ℕ) → byte < 32 → escape_letter byte ≡ 0 → Passes (escape_byte byte) (byte ∷ [])
control_passes byte small none =
    let is = control byte 0 (sym none) (omega arith) small ∙ byte_unit byte small in
    subst (λ (t : List ℕ). Passes t (byte ∷ [])) (sym is) (subst (λ (t : List ℕ). Passes (codes "\\u" ++ hex 4 byte) t) (encode_ascii byte (omega (arith, small))) (unit_passes byte (omega (arith, small)) (inl (omega (arith, small)))))

backspace_passes : Passes (escape_byte 8) (8 ∷ [])
unfolding escape_byte content lex short_escape
backspace_passes = record { read = λ r. refl; lexed = λ r. refl }

tab_passes : Passes (escape_byte 9) (9 ∷ [])
unfolding escape_byte content lex short_escape
tab_passes = record { read = λ r. refl; lexed = λ r. refl }

line_feed_passes : Passes (escape_byte 10) (10 ∷ [])
unfolding escape_byte content lex short_escape
line_feed_passes = record { read = λ r. refl; lexed = λ r. refl }

form_feed_passes : Passes (escape_byte 12) (12 ∷ [])
unfolding escape_byte content lex short_escape
form_feed_passes = record { read = λ r. refl; lexed = λ r. refl }

carriage_return_passes : Passes (escape_byte 13) (13 ∷ [])
unfolding escape_byte content lex short_escape
carriage_return_passes = record { read = λ r. refl; lexed = λ r. refl }

quote_passes : Passes (escape_byte 34) (34 ∷ [])
unfolding escape_byte content lex short_escape
quote_passes = record { read = λ r. refl; lexed = λ r. refl }

backslash_passes : Passes (escape_byte 92) (92 ∷ [])
unfolding escape_byte content lex short_escape
backslash_passes = record { read = λ r. refl; lexed = λ r. refl }

plain_passes : (x : ℕ) → (x ≡ 34 → ⊥) → (x ≡ 92 → ⊥) → 32 ≤ x → Passes (escape_byte x) (x ∷ [])
unfolding content
plain_passes x q b l =
    let same = escape_byte_plain x q b l in
    record {
      read = λ r. rw (same, ne_eqb x 34 q, ne_eqb x 92 b, le-ltb x 32 l);
      lexed = λ r. rw same (inside x r q b);
    }

abbrev Escaped : ℕ → Type 0
Escaped x = Passes (escape_byte x) (x ∷ [])

no_letter : (x : ℕ) → (x ≡ 34 → ⊥) → (x ≡ 92 → ⊥) → (x ≡ 8 → ⊥) → (x ≡ 9 → ⊥) → (x ≡ 10 → ⊥) → (x ≡ 12 → ⊥) → (x ≡ 13 → ⊥) → escape_letter x ≡ 0
no_letter x a b c d e f g = rw (ne_eqb x 34 a, ne_eqb x 92 b, ne_eqb x 8 c, ne_eqb x 9 d, ne_eqb x 10 e, ne_eqb x 12 f, ne_eqb x 13 g) refl

controls : (x : ℕ) → (x ≡ 34 → ⊥) → (x ≡ 92 → ⊥) → x < 32 → (x ≡ 8) ⊎ (x ≡ 8 → ⊥) → (x ≡ 9) ⊎ (x ≡ 9 → ⊥) → (x ≡ 10) ⊎ (x ≡ 10 → ⊥) → (x ≡ 12) ⊎ (x ≡ 12 → ⊥) → (x ≡ 13) ⊎ (x ≡ 13 → ⊥) → Escaped x
controls x a b small (inl is) d e f g = subst Escaped (sym is) backspace_passes
controls x a b small (inr c) (inl is) e f g = subst Escaped (sym is) tab_passes
controls x a b small (inr c) (inr d) (inl is) f g = subst Escaped (sym is) line_feed_passes
controls x a b small (inr c) (inr d) (inr e) (inl is) g = subst Escaped (sym is) form_feed_passes
controls x a b small (inr c) (inr d) (inr e) (inr f) (inl is) = subst Escaped (sym is) carriage_return_passes
controls x a b small (inr c) (inr d) (inr e) (inr f) (inr g) = control_passes x small (no_letter x a b c d e f g)

bytes : (x : ℕ) → (x ≡ 34) ⊎ (x ≡ 34 → ⊥) → (x ≡ 92) ⊎ (x ≡ 92 → ⊥) → (x < 32) ⊎ (32 ≤ x) → Escaped x
bytes x (inl is) b c = subst Escaped (sym is) quote_passes
bytes x (inr a) (inl is) c = subst Escaped (sym is) backslash_passes
bytes x (inr a) (inr b) (inl small) = controls x a b small (cases_eq x 8) (cases_eq x 9) (cases_eq x 10) (cases_eq x 12) (cases_eq x 13)
bytes x (inr a) (inr b) (inr least) = plain_passes x a b least

-- ---- one after the other
prepend_more : (xs ys : List ℕ) (rest : Option (List ℕ)) → prepend xs (prepend ys rest) ≡ prepend (xs ++ ys) rest
prepend_more xs ys None = refl
prepend_more xs ys (Some zs) = ap (λ (l : List ℕ). Some l) (sym (append_assoc xs ys zs))

prepend_none : (rest : Option (List ℕ)) → rest ≡ prepend [] rest
prepend_none None = refl
prepend_none (Some zs) = refl

none_passes : Passes [] []
none_passes = record { read = λ r. prepend_none (content plain r); lexed = λ r. refl }

passes_then : (t u xs ys : List ℕ) → Passes t xs → Passes u ys → Passes (t ++ u) (xs ++ ys)
passes_then t u xs ys h k = record {
  read = λ r. ap (content plain) (append_assoc t u r) ∙ h.read (u ++ r) ∙ ap (prepend xs) (k.read r) ∙ prepend_more xs ys (content plain r);
  lexed = λ r. ap (lex in_string) (append_assoc t u r) ∙ h.lexed (u ++ r) ∙ k.lexed r;
}

escape_passes : (s : List ℕ) → Passes (escape s) s
escape_passes [] = none_passes
escape_passes (x ∷ xs) = passes_then (escape_byte x) (escape xs) (x ∷ []) xs (bytes x (cases_eq x 34) (cases_eq x 92) (cases_lt x 32)) (escape_passes xs)

hidden_small : (c : ℕ) → is_hidden c ≡ true → c < 65536
hidden_small c hidden = grind (arith, common_steps)

hidden_legal : (c : ℕ) → is_hidden c ≡ true → (c < 55296) ⊎ (57344 ≤ c)
hidden_legal c hidden = elim (cases_lt c 55296) [ inl low ↦ inl low | inr least ↦ inr (grind (arith, common_steps)) ]

character_passes : (c : ℕ) → Passes (shown_character c) (encode c)
unfolding shown_character
character_passes c = elim (cases_Bool (is_hidden c)) [
  | inl hidden ↦ rw hidden (unit_passes c (hidden_small c hidden) (hidden_legal c hidden))
  | inr shows ↦ rw shows (escape_passes (encode c))
]

characters_pass : (cs : List ℕ) → Passes (flat_map shown_character cs) (encodes cs)
characters_pass [] = none_passes
characters_pass (c ∷ cs) = passes_then (shown_character c) (flat_map shown_character cs) (encode c) (encodes cs) (character_passes c) (characters_pass cs)

shown_passes : (s : List ℕ) → IsUtf8 s → Passes (shown s) s
unfolding shown
shown_passes s utf8 = subst (Passes (flat_map shown_character (chars s))) (encodes-chars s utf8) (characters_pass (chars s))

-- the content of a string, up to its quote
content_shown : (s r : List ℕ) → IsUtf8 s → content plain (shown s ++ 34 ∷ r) ≡ Some s
unfolding content
content_shown s r utf8 = (shown_passes s utf8).read (34 ∷ r) ∙ ap (λ (l : List ℕ). Some l) (append-nil s)

lex_shown : (s r : List ℕ) → IsUtf8 s → lex in_string (shown s ++ 34 ∷ r) ≡ lex between r
unfolding lex
lex_shown s r utf8 = (shown_passes s utf8).lexed (34 ∷ r)

-- ---- tokens
abbrev lexemes_of : Token → List Lexeme
lexemes_of Token.begin_object = token Token.begin_object ∷ []
lexemes_of Token.end_object = token Token.end_object ∷ []
lexemes_of Token.begin_array = token Token.begin_array ∷ []
lexemes_of Token.end_array = token Token.end_array ∷ []
lexemes_of (Token.key s) = token (Token.string s) ∷ colon ∷ []
lexemes_of (Token.string s) = token (Token.string s) ∷ []
lexemes_of (Token.number s) = token (Token.number s) ∷ []
lexemes_of (Token.boolean b) = token (Token.boolean b) ∷ []
lexemes_of Token.null = token Token.null ∷ []
lexemes_of Token.bad = []

-- a string is UTF-8
abbrev IsText : Token → Type 0
IsText Token.begin_object = ⊤
IsText Token.end_object = ⊤
IsText Token.begin_array = ⊤
IsText Token.end_array = ⊤
IsText (Token.key s) = ⊤
IsText (Token.string s) = IsUtf8 s
IsText (Token.number s) = ⊤
IsText (Token.boolean b) = ⊤
IsText Token.null = ⊤
IsText Token.bad = ⊤

abbrev AreTexts : List Token → Type 0
AreTexts [] = ⊤
AreTexts (t ∷ ts) = IsText t × AreTexts ts

-- after a value stands a comma, a closing bracket or nothing
ends_shown : (ts : List Token) → ends_word (print_from true ts) ≡ true
unfolding print_from
ends_shown [] = refl
ends_shown (Token.begin_object ∷ ts) = refl
ends_shown (Token.end_object ∷ ts) = refl
ends_shown (Token.begin_array ∷ ts) = refl
ends_shown (Token.end_array ∷ ts) = refl
ends_shown (Token.key s ∷ ts) = refl
ends_shown (Token.string s ∷ ts) = refl
ends_shown (Token.number s ∷ ts) = refl
ends_shown (Token.boolean b ∷ ts) = refl
ends_shown (Token.null ∷ ts) = refl
ends_shown (Token.bad ∷ ts) = refl

ends_json : (ts : List Token) → ends_word (json.print_from true ts) ≡ true
unfolding json.print_from
ends_json [] = refl
ends_json (Token.begin_object ∷ ts) = refl
ends_json (Token.end_object ∷ ts) = refl
ends_json (Token.begin_array ∷ ts) = refl
ends_json (Token.end_array ∷ ts) = refl
ends_json (Token.key s ∷ ts) = refl
ends_json (Token.string s ∷ ts) = refl
ends_json (Token.number s ∷ ts) = refl
ends_json (Token.boolean b ∷ ts) = refl
ends_json (Token.null ∷ ts) = refl
ends_json (Token.bad ∷ ts) = refl

lex_quoted : (s r : List ℕ) → lex between (quoted s ++ r) ≡ token (Token.string s) ∷ lex between r
unfolding lex
lex_quoted s r =
    ap (λ (l : List ℕ). lex between (34 ∷ l)) (append_assoc (escape s) (34 ∷ []) r)
    ∙ ap₂ (λ (o : Option (List ℕ)) (l : List Lexeme). token (string_token o) ∷ l) (content-escape s r) (lex-escape s r)

lex_string : (s r : List ℕ) → IsUtf8 s → lex between (shown_string s ++ r) ≡ token (Token.string s) ∷ lex between r
unfolding lex
lex_string s r utf8 =
    ap (λ (l : List ℕ). lex between (34 ∷ l)) (append_assoc (shown s) (34 ∷ []) r)
    ∙ ap₂ (λ (o : Option (List ℕ)) (l : List Lexeme). token (string_token o) ∷ l) (content_shown s r utf8) (lex_shown s r utf8)

lex_token : (t : Token) (r : List ℕ) → IsPrintable t → (ends t ≡ true → ends_word r ≡ true) → lex between (json.token_text t ++ r) ≡ lexemes_of t ++ lex between r
unfolding lex word
lex_token Token.begin_object r h ended = refl
lex_token Token.end_object r h ended = refl
lex_token Token.begin_array r h ended = refl
lex_token Token.end_array r h ended = refl
lex_token (Token.key s) r h ended = ap (lex between) (append_assoc (quoted s) (58 ∷ []) r) ∙ lex_quoted s (58 ∷ r)
lex_token (Token.string s) r h ended = lex_quoted s r
lex_token (Token.number s) r h ended = lex-number s r h (ended refl)
lex_token (Token.boolean true) r h ended = ap₂ (λ (b : Bool) (l : List Lexeme). token (cond b (Token.boolean true) Token.bad) ∷ l) (ended refl) (in_word-ended r (ended refl))
lex_token (Token.boolean false) r h ended = ap₂ (λ (b : Bool) (l : List Lexeme). token (cond b (Token.boolean false) Token.bad) ∷ l) (ended refl) (in_word-ended r (ended refl))
lex_token Token.null r h ended = ap₂ (λ (b : Bool) (l : List Lexeme). token (cond b Token.null Token.bad) ∷ l) (ended refl) (in_word-ended r (ended refl))
lex_token Token.bad r h ended = absurd h

lex_shown_token : (t : Token) (r : List ℕ) → IsPrintable t → IsText t → (ends t ≡ true → ends_word r ≡ true) → lex between (token_text t ++ r) ≡ lexemes_of t ++ lex between r
lex_shown_token Token.begin_object r h text ended = lex_token Token.begin_object r h ended
lex_shown_token Token.end_object r h text ended = lex_token Token.end_object r h ended
lex_shown_token Token.begin_array r h text ended = lex_token Token.begin_array r h ended
lex_shown_token Token.end_array r h text ended = lex_token Token.end_array r h ended
lex_shown_token (Token.key s) r h text ended = lex_token (Token.key s) r h ended
lex_shown_token (Token.string s) r h text ended = lex_string s r text
lex_shown_token (Token.number s) r h text ended = lex_token (Token.number s) r h ended
lex_shown_token (Token.boolean b) r h text ended = lex_token (Token.boolean b) r h ended
lex_shown_token Token.null r h text ended = lex_token Token.null r h ended
lex_shown_token Token.bad r h text ended = absurd h

lex_separator : (b : Bool) (r : List ℕ) → lex between (cond b (44 ∷ []) [] ++ r) ≡ cond b (comma ∷ []) [] ++ lex between r
unfolding lex
lex_separator true r = refl
lex_separator false r = refl

-- the reader sees the same lexemes in what the crate json prints
same_lexemes : (c : Bool) (ts : List Token) → ArePrintable ts → AreTexts ts → lex between (print_from c ts) ≡ lex between (json.print_from c ts)
unfolding print_from json.print_from ArePrintable
same_lexemes c [] h texts = refl
same_lexemes c (t ∷ ts) h texts =
    let ours : List ℕ = print_from (ends t) ts in
    let its : List ℕ = json.print_from (ends t) ts in
    let comma_first : List Lexeme → List Lexeme = λ l. cond (c && begins t) (comma ∷ []) [] ++ l in
    lex_separator (c && begins t) (token_text t ++ ours)
    ∙ ap comma_first (lex_shown_token t ours h.0 texts.0 (λ e. ap (λ (b : Bool). ends_word (print_from b ts)) e ∙ ends_shown ts)
    ∙ ap (λ (l : List Lexeme). lexemes_of t ++ l) (same_lexemes (ends t) ts h.1 texts.1)
    ∙ sym (lex_token t its h.0 (λ e. ap (λ (b : Bool). ends_word (json.print_from b ts)) e ∙ ends_json ts)))
    ∙ sym (lex_separator (c && begins t) (json.token_text t ++ its))

-- ---- values
texts_then : (ts us : List Token) → AreTexts ts → AreTexts us → AreTexts (ts ++ us)
texts_then [] us h k = k
texts_then (t ∷ ts) us h k = (h.0, texts_then ts us h.1 k)

mutual
  value_texts : (value : Json) → HasPlainLeaves value → AreTexts (json_tokens value)
  value_texts null h = (tt, tt)
  value_texts (boolean b) h = (tt, tt)
  value_texts (number s) h = (tt, tt)
  value_texts (string s) h = (h, tt)
  value_texts (array items) h = (tt, items_texts items h)
  value_texts (object members) h = (tt, members_texts members h)

  items_texts : (items : Items) → ItemsHavePlainLeaves items → AreTexts (items_tokens items)
  items_texts no_items h = (tt, tt)
  items_texts (item value items) h = texts_then (json_tokens value) (items_tokens items) (value_texts value h.0) (items_texts items h.1)

  members_texts : (members : Members) → MembersHavePlainLeaves members → AreTexts (members_tokens members)
  members_texts no_members h = (tt, tt)
  members_texts (member key value members) h = (tt, texts_then (json_tokens value) (members_tokens members) (value_texts value h.0) (members_texts members h.1))

-- a text is read as its value
pub read_back : (value : Json) (t : List ℕ) → IsTextOf value t → HasNumbers value → document t ≡ Some value
read_back value t h numbers =
    let ts = json_tokens value in
    let printable : ArePrintable ts = ArePrintable-json_tokens value numbers in
    let read : tokens t ≡ ts = ap tokens (sym h.prints) ∙ ap (punctuate fresh) (same_lexemes false ts printable (value_texts value h.leaves)) ∙ tokens-print ts printable in
    ap (option_and_then (λ p. if_last p.0 p.1)) (ap (json_value max_depth) (read ∙ sym (append-nil ts)) ∙ value-json_tokens value max_depth [] h.shallow)
