-- What strings show of texts.
use Rattle.std.proofs.Common.{◌≡◌, ◌∙◌, ◌<◌, ◌≤◌, ◌+◌, ◌/◌, ◌%◌, ◌^◌, ℕ, zero, suc, Bool, true, false, not, List, [], ◌∷◌, ◌++◌, codes, refl, sym, ap, ap₂, subst, append_assoc, append-nil, length, get_or, take, drop, take-append-drop, IsUtf8, inl, inr, arith, ltb-true, flat_map}
use Rattle.std.specs.Prelude.{slice_index, nat_le, nat_lt, ◌&&◌}
use Rattle.std.specs.List.{list_all}
use Rattle.std.specs.Str.{chars, IsCharBoundary}
use Rattle.std.proofs.lemmas.Bool.{and_from, and_parts, cases_lt, cases_Bool}
use Rattle.std.proofs.lemmas.List.Folds.{list_all-append}
use Rattle.std.proofs.lemmas.Grind.{common_steps, flat_map-append}
use Rattle.std.proofs.lemmas.Str.{IsUtf8-append, IsUtf8-nil, IsUtf8-encode, IsUtf8-take, IsUtf8-drop, encode_ascii, inside_one, chars-append, chars-nil, chars_past_char, chars-encodes, scalars-chars}
use lib.Utf8.{scalar, scalars, encode, encodes, low_scalar}
use Rattle.json.specs.Print.{quoted, escape, escape_byte}
use Rattle.json.proofs.Printed.Strings.{escape_byte_plain}
use Rattle.pe_text.specs.Text.{glyph, hex}
use Rattle.pe_json.specs.Strings.{is_plain}
use Rattle.pe_json.specs.Shown.{is_hidden, shown_character, shown, shown_string, has_none_hidden}
use Rattle.pe_json.proofs.Escapes.{plain_string}

-- ---- pieces
pub shown-append : (xs ys : List ℕ) → IsUtf8 xs → shown (xs ++ ys) ≡ shown xs ++ shown ys
unfolding shown
shown-append xs ys utf8 = ap (flat_map shown_character) (chars-append xs ys utf8) ∙ flat_map-append shown_character (chars xs) (chars ys)

pub shown_past : (bs rest : List ℕ) (c : ℕ) → IsUtf8 bs → bs ≡ encode c ++ rest → shown bs ≡ shown_character c ++ shown rest
unfolding shown
shown_past bs rest c utf8 is = ap (flat_map shown_character) (chars_past_char bs rest c utf8 is)

pub shown-none : shown [] ≡ []
unfolding shown
shown-none = ap (flat_map shown_character) chars-nil

pub shown_one : (c : ℕ) → scalar c ≡ true → shown (encode c) ≡ shown_character c
shown_one c is = shown_past (encode c) [] c (IsUtf8-encode c is) (sym (append-nil (encode c))) ∙ ap (λ (xs : List ℕ). shown_character c ++ xs) shown-none ∙ append-nil (shown_character c)

-- ---- bytes of characters
two_bytes : (c : ℕ) → 128 ≤ c → c < 2048 → encode c ≡ (192 + c / 64) ∷ (128 + c % 64) ∷ []
unfolding encode
two_bytes c least most = grind (arith, common_steps)

three_bytes : (c : ℕ) → 2048 ≤ c → c < 65536 → encode c ≡ (224 + c / 4096) ∷ (128 + c / 64 % 64) ∷ (128 + c % 64) ∷ []
unfolding encode
three_bytes c least most = grind (arith, common_steps)

-- a hidden character has a byte that does not stand for itself
hidden_not_plain : (c : ℕ) → is_hidden c ≡ true → list_all is_plain (encode c) ≡ false
hidden_not_plain c hidden = elim (cases_lt c 128) [
  | inl one ↦
      let is : c ≡ 127 = grind (arith, common_steps) in
      rw (encode_ascii c one, is) refl
  | inr more ↦ elim (cases_lt c 2048) [
    | inl two ↦
        let is : 192 + c / 64 ≡ 194 = grind (arith, common_steps) in
        rw (two_bytes c more two, is) refl
    | inr most ↦
        let below : c < 65536 = grind (arith, common_steps) in
        elim (cases_lt c 65279) [
          | inl other ↦
              let is : 224 + c / 4096 ≡ 226 = grind (arith, common_steps) in
              rw (three_bytes c most below, is) refl
          | inr last ↦
              let is : 224 + c / 4096 ≡ 239 = grind (arith, common_steps) in
              rw (three_bytes c most below, is) refl
        ]
  ]
]

not_hidden : (c : ℕ) → list_all is_plain (encode c) ≡ true → is_hidden c ≡ false
not_hidden c plain = elim (cases_Bool (is_hidden c)) [ inl hidden ↦ absurd (let other = hidden_not_plain c hidden in cc) | inr shows ↦ shows ]

shown_plain : (c : ℕ) → list_all is_plain (encode c) ≡ true → shown_character c ≡ encode c
unfolding shown_character
shown_plain c plain = rw (not_hidden c plain) (plain_string (encode c) plain)

each_plain : (cs : List ℕ) → list_all is_plain (encodes cs) ≡ true → flat_map shown_character cs ≡ encodes cs
each_plain [] plain = refl
each_plain (c ∷ cs) plain =
    let parts = and_parts _ _ (sym (list_all-append is_plain (encode c) (encodes cs)) ∙ plain) in
    ap₂ (λ (xs ys : List ℕ). xs ++ ys) (shown_plain c parts.0) (each_plain cs parts.1)

-- a text whose bytes stand for themselves
pub plain_same : (t : List ℕ) → IsUtf8 t → list_all is_plain t ≡ true → shown t ≡ t
unfolding shown
plain_same t utf8 plain = ap (flat_map shown_character) (ap chars (sym utf8.1.1) ∙ chars-encodes utf8.0 utf8.1.0) ∙ each_plain utf8.0 (ap (list_all is_plain) utf8.1.1 ∙ plain) ∙ utf8.1.1

-- ---- ASCII
-- the text has bytes below that of delete alone
abbrev pub are_ascii : List ℕ → Bool
are_ascii = list_all (λ byte. nat_lt byte 0x7f)

pub ascii_utf8 : (t : List ℕ) → are_ascii t ≡ true → IsUtf8 t
ascii_utf8 [] h = IsUtf8-nil
ascii_utf8 (x ∷ xs) h =
    let parts = and_parts _ _ h in
    let small : x < 127 = ltb-true _ _ parts.0 in
    IsUtf8-append (x ∷ []) xs (subst IsUtf8 (encode_ascii x (omega arith)) (IsUtf8-encode x (low_scalar x (omega arith)))) (ascii_utf8 xs parts.1)

ascii_chars : (t : List ℕ) → are_ascii t ≡ true → chars t ≡ t
ascii_chars [] h = chars-nil
ascii_chars (x ∷ xs) h =
    let parts = and_parts _ _ h in
    let small : x < 127 = ltb-true _ _ parts.0 in
    chars_past_char (x ∷ xs) xs x (ascii_utf8 (x ∷ xs) h) (rw (encode_ascii x (omega arith)) refl) ∙ ap (λ (cs : List ℕ). x ∷ cs) (ascii_chars xs parts.1)

below_hidden : (c : ℕ) → c < 127 → is_hidden c ≡ false
below_hidden c small = grind (arith, common_steps)

none_among : (t : List ℕ) → are_ascii t ≡ true → list_all (λ c. not (is_hidden c)) t ≡ true
none_among [] h = refl
none_among (x ∷ xs) h =
    let parts = and_parts _ _ h in
    and_from _ _ (ap not (below_hidden x (ltb-true _ _ parts.0))) (none_among xs parts.1)

pub ascii_shows : (t : List ℕ) → are_ascii t ≡ true → has_none_hidden t ≡ true
ascii_shows t h = ap (list_all (λ c. not (is_hidden c))) (ascii_chars t h) ∙ none_among t h

ascii_escaped : (t : List ℕ) → are_ascii t ≡ true → flat_map shown_character t ≡ escape t
unfolding shown_character
ascii_escaped [] h = refl
ascii_escaped (x ∷ xs) h =
    let parts = and_parts _ _ h in
    let small : x < 127 = ltb-true _ _ parts.0 in
    ap₂ (λ (xs ys : List ℕ). xs ++ ys) (rw (below_hidden x small, encode_ascii x (omega arith)) (append-nil (escape_byte x))) (ascii_escaped xs parts.1)

-- a text of ASCII is as the crate json writes it
pub ascii_string : (t : List ℕ) → are_ascii t ≡ true → shown_string t ≡ quoted t
unfolding shown
ascii_string t h = ap (λ (xs : List ℕ). 34 ∷ (xs ++ 34 ∷ [])) (ap (flat_map shown_character) (ascii_chars t h) ∙ ascii_escaped t h)

-- ---- what is shown is UTF-8, and has no hidden character
none_hidden-append : (t u : List ℕ) → IsUtf8 t → has_none_hidden t ≡ true → has_none_hidden u ≡ true → has_none_hidden (t ++ u) ≡ true
none_hidden-append t u utf8 h k =
    ap (list_all (λ c. not (is_hidden c))) (chars-append t u utf8) ∙ list_all-append (λ c. not (is_hidden c)) (chars t) (chars u) ∙ and_from _ _ h k

-- a text is UTF-8, and has no control character and no hidden one
pub record IsLineText (t : List ℕ) : Type 0 where
  pub utf8 : IsUtf8 t
  pub one_line : list_all (nat_le 0x20) t ≡ true
  pub none_hidden : has_none_hidden t ≡ true

pub text_then : (t u : List ℕ) → IsLineText t → IsLineText u → IsLineText (t ++ u)
text_then t u h k = record {
  utf8 = IsUtf8-append t u h.utf8 k.utf8;
  one_line = list_all-append (nat_le 0x20) t u ∙ and_from _ _ h.one_line k.one_line;
  none_hidden = none_hidden-append t u h.utf8 h.none_hidden k.none_hidden;
}

-- one of ASCII without control characters
pub visible : (t : List ℕ) → are_ascii t ≡ true → list_all (nat_le 0x20) t ≡ true → IsLineText t
visible t is_ascii one_line = record { utf8 = ascii_utf8 t is_ascii; one_line = one_line; none_hidden = ascii_shows t is_ascii }

pub no_text : IsLineText []
no_text = visible [] refl refl

digit_ascii : (d : ℕ) → d < 16 → are_ascii (glyph d ∷ []) ≡ true
digit_ascii d small = grind (arith, common_steps)

digit_visible : (d : ℕ) → d < 16 → list_all (nat_le 0x20) (glyph d ∷ []) ≡ true
digit_visible d small = grind (arith, common_steps)

pub hex_text : (width n : ℕ) → IsLineText (hex width n)
unfolding hex
hex_text zero n = no_text
hex_text (suc k) n =
    let d = n / 16 ^ k % 16 in
    text_then (glyph d ∷ []) (hex k n) (visible (glyph d ∷ []) (digit_ascii d (omega arith)) (digit_visible d (omega arith))) (hex_text k n)

-- bytes of characters that are not ASCII
high : (c : ℕ) → scalar c ≡ true → 128 ≤ c → (k : ℕ) → k < length (encode c) → 128 ≤ get_or (encode c) k 0
high c is least k below = elim (cases_lt (get_or (encode c) k 0) 128) [
  | inl low ↦ absurd (omega (arith, inside_one c [] (encode c) k (sym (append-nil _)) below low))
  | inr h ↦ h
]

escape_high : (xs : List ℕ) → ((k : ℕ) → k < length xs → 128 ≤ get_or xs k 0) → escape xs ≡ xs
escape_high [] h = refl
escape_high (x ∷ xs) h =
    let least : 128 ≤ x = h 0 (omega arith) in
    ap₂ (λ (a b : List ℕ). a ++ b) (escape_byte_plain x (λ e. omega arith) (λ e. omega arith) (omega arith)) (escape_high xs (λ k below. h (suc k) (omega arith)))

high_visible : (xs : List ℕ) → ((k : ℕ) → k < length xs → 128 ≤ get_or xs k 0) → list_all (nat_le 0x20) xs ≡ true
high_visible [] h = refl
high_visible (x ∷ xs) h =
    let least : 128 ≤ x = h 0 (omega arith) in
    and_from _ _ (grind (arith, common_steps)) (high_visible xs (λ k below. h (suc k) (omega arith)))

pub many_bytes : (c : ℕ) → scalar c ≡ true → 128 ≤ c → escape (encode c) ≡ encode c
many_bytes c is least = escape_high (encode c) (high c is least)

escape_ascii : (byte : ℕ) → byte < 127 → are_ascii (escape_byte byte) ≡ true
unfolding escape_byte
escape_ascii byte small = grind (arith, common_steps)

escape_visible : (byte : ℕ) → list_all (nat_le 0x20) (escape_byte byte) ≡ true
unfolding escape_byte
escape_visible byte = grind (arith, common_steps)

one_character : (c : ℕ) → scalar c ≡ true → is_hidden c ≡ false → IsLineText (escape (encode c))
one_character c is shows = elim (cases_lt c 128) [
  | inl small ↦
      let below : c < 127 = grind (arith, common_steps) in
      rw (encode_ascii c small, append-nil (escape_byte c)) (visible (escape_byte c) (escape_ascii c below) (escape_visible c))
  | inr least ↦ rw (many_bytes c is least) (record {
    utf8 = IsUtf8-encode c is;
    one_line = high_visible (encode c) (high c is least);
    none_hidden = ap (list_all (λ c. not (is_hidden c))) (chars_past_char (encode c) [] c (IsUtf8-encode c is) (sym (append-nil _)) ∙ ap (λ (cs : List ℕ). c ∷ cs) chars-nil) ∙ ap (λ (b : Bool). not b && true) shows;
  })
]

character_text : (c : ℕ) → scalar c ≡ true → IsLineText (shown_character c)
unfolding shown_character
character_text c is = elim (cases_Bool (is_hidden c)) [
  | inl hidden ↦ rw hidden (text_then (codes "\\u") (hex 4 c) (visible (codes "\\u") refl refl) (hex_text 4 c))
  | inr shows ↦ rw shows (one_character c is shows)
]

characters_text : (cs : List ℕ) → scalars cs ≡ true → IsLineText (flat_map shown_character cs)
characters_text [] h = no_text
characters_text (c ∷ cs) h =
    let parts = and_parts _ _ h in
    text_then (shown_character c) (flat_map shown_character cs) (character_text c parts.0) (characters_text cs parts.1)

pub shown_text : (t : List ℕ) → IsUtf8 t → IsLineText (shown_string t)
unfolding shown
shown_text t utf8 =
    text_then (34 ∷ flat_map shown_character (chars t)) (34 ∷ [])
    (text_then (34 ∷ []) (flat_map shown_character (chars t)) (visible (34 ∷ []) refl refl) (characters_text (chars t) (scalars-chars t utf8)))
    (visible (34 ∷ []) refl refl)

-- ---- runs
-- a byte that does not stand for itself begins a character
pub run_boundary : (s : List ℕ) (n : ℕ) → n ≤ length s → (n < length s → is_plain (slice_index s n) ≡ false) → IsCharBoundary s n
run_boundary s n within ends = (within, λ below high. let other = ends below in grind (arith, common_steps))

-- what stands for itself, and what follows
pub run_first : (s : List ℕ) (n : ℕ) → IsUtf8 s → IsCharBoundary s n → list_all is_plain (take n s) ≡ true → shown s ≡ take n s ++ shown (drop n s)
run_first s n utf8 boundary plain =
    let front = IsUtf8-take s n utf8 boundary in
    ap shown (sym (take-append-drop n s)) ∙ shown-append (take n s) (drop n s) front ∙ ap (λ (xs : List ℕ). xs ++ shown (drop n s)) (plain_same (take n s) front plain)

-- and the character after it
pub run_then : (s rest : List ℕ) (n c : ℕ) → IsUtf8 s → IsCharBoundary s n → list_all is_plain (take n s) ≡ true → drop n s ≡ encode c ++ rest
    → shown s ≡ (take n s ++ shown_character c) ++ shown rest
run_then s rest n c utf8 boundary plain is =
    run_first s n utf8 boundary plain
    ∙ ap (λ (xs : List ℕ). take n s ++ xs) (shown_past (drop n s) rest c (IsUtf8-drop s n utf8 boundary) is)
    ∙ sym (append_assoc (take n s) (shown_character c) (shown rest))

-- nothing follows
pub none_left : (written rest : List ℕ) → length rest ≡ 0 → written ≡ written ++ shown rest
none_left written [] none = sym (ap (λ (xs : List ℕ). written ++ xs) shown-none ∙ append-nil written)
none_left written (x ∷ rest) none = absurd (omega arith)
