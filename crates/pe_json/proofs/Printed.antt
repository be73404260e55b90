-- Texts of JSON are what values of the crate json print, with strings as they are shown.
use Rattle.std.proofs.Common.{◌≡◌, ◌∙◌, ◌<◌, ◌≤◌, ℕ, zero, suc, Bool, true, false, List, [], ◌∷◌, ◌++◌, codes, decimal, refl, sym, ap, ap₂, subst, append_assoc, append-nil, fold, IsUtf8, arith, Some}
use Rattle.std.specs.Prelude.{⊤, ◌==◌, ◌/◌, ◌%◌, if◌then◌else◌, nat_le}
use Rattle.std.specs.List.{list_all}
use Rattle.std.proofs.lemmas.Bool.{and_from}
use Rattle.std.proofs.lemmas.List.Folds.{list_all-append}
use Rattle.std.proofs.lemmas.Grind.{common_steps}
use Rattle.json.specs.Json.{Json, null, boolean, number, string, array, object, Items, no_items, item, Members, no_members, member, document}
use Rattle.json.specs.Token.{Token}
use Rattle.json.specs.Print.{quoted, separator, ends}
use Rattle.json.specs.Tree.{json_tokens, items_tokens, members_tokens, depth, items_depth, members_depth}
use Rattle.std.specs.Fmt.{digits, digits_onto, digit_glyph}
use Rattle.pe_json.specs.JsonText as text
use Rattle.pe_json.specs.JsonText.{with_commas, list}
use Rattle.pe_json.specs.Listed.{more}
use Rattle.pe_json.specs.Shown.{shown_string}
use Rattle.pe_json.specs.Value.{token_text, print_from, HasPlainLeaves, ItemsHavePlainLeaves, MembersHavePlainLeaves, IsTextOf}
use Rattle.pe_json.proofs.Objects.{comma_first}
use Rattle.pe_json.proofs.Shown.{are_ascii, ascii_utf8, ascii_string, IsLineText, no_text, text_then, visible, shown_text}

-- the test of a text of ASCII
pub ascii : (t : List ℕ) → are_ascii t ≡ true → IsUtf8 t
ascii = ascii_utf8

-- a key is as the crate json writes it
key_text : (key : List ℕ) → are_ascii key ≡ true → IsLineText (quoted key)
key_text key h = subst IsLineText (ascii_string key h) (shown_text key (ascii key h))

-- ---- values and members, as texts
-- a text is that of a value that nests no deeper than a limit
pub record IsValue (limit : ℕ) (t : List ℕ) : Type 0 where
  pub value : Json
  pub prints : print_from false (json_tokens value) ≡ t
  pub line_text : IsLineText t
  pub shallow : depth value ≤ limit
  pub leaves : HasPlainLeaves value

-- a text is that of a member: a key, and such a value
pub record IsMember (limit : ℕ) (t : List ℕ) : Type 0 where
  pub key : List ℕ
  pub own : List ℕ
  pub is : t ≡ quoted key ++ (58 ∷ own)
  pub key_ascii : are_ascii key ≡ true
  pub holds : IsValue limit own

abbrev pub AreValues : ℕ → List (List ℕ) → Type 0
AreValues limit [] = ⊤
AreValues limit (t ∷ ts) = IsValue limit t × AreValues limit ts

abbrev pub AreMembers : ℕ → List (List ℕ) → Type 0
AreMembers limit [] = ⊤
AreMembers limit (t ∷ ts) = IsMember limit t × AreMembers limit ts

abbrev items_of : (limit : ℕ) (ts : List (List ℕ)) → AreValues limit ts → Items
items_of limit [] h = no_items
items_of limit (t ∷ ts) h = item (h.0).value (items_of limit ts h.1)

abbrev members_of : (limit : ℕ) (ts : List (List ℕ)) → AreMembers limit ts → Members
members_of limit [] h = no_members
members_of limit (t ∷ ts) h = member (h.0).key (h.0).holds.value (members_of limit ts h.1)

-- ---- a value ends, and begins, as one
print_from-append : (c : Bool) (ts us : List Token) → print_from c (ts ++ us) ≡ print_from c ts ++ print_from (fold (λ _ u. ends u) c ts) us
unfolding print_from
print_from-append c [] us = refl
print_from-append c (t ∷ ts) us =
    ap (λ (xs : List ℕ). separator c t ++ (token_text t ++ xs)) (print_from-append (ends t) ts us)
    ∙ ap (λ (xs : List ℕ). separator c t ++ xs) (sym (append_assoc (token_text t) _ _)) ∙ sym (append_assoc (separator c t) _ _)

fold-append : (c : Bool) (ts us : List Token) → fold (λ _ u. ends u) c (ts ++ us) ≡ fold (λ _ u. ends u) (fold (λ _ u. ends u) c ts) us
fold-append c [] us = refl
fold-append c (t ∷ ts) us = fold-append (ends t) ts us

mutual
  value_ends : (c : Bool) (j : Json) → fold (λ _ u. ends u) c (json_tokens j) ≡ true
  value_ends c null = refl
  value_ends c (boolean b) = refl
  value_ends c (number s) = refl
  value_ends c (string s) = refl
  value_ends c (array js) = items_end false js
  value_ends c (object ms) = members_end false ms

  items_end : (c : Bool) (js : Items) → fold (λ _ u. ends u) c (items_tokens js) ≡ true
  items_end c no_items = refl
  items_end c (item j js) = fold-append c (json_tokens j) (items_tokens js) ∙ items_end (fold (λ _ u. ends u) c (json_tokens j)) js

  members_end : (c : Bool) (ms : Members) → fold (λ _ u. ends u) c (members_tokens ms) ≡ true
  members_end c no_members = refl
  members_end c (member k j ms) = fold-append false (json_tokens j) (members_tokens ms) ∙ members_end (fold (λ _ u. ends u) false (json_tokens j)) ms

-- a value and what follows it
value_then : (j : Json) (ts : List Token) → print_from false (json_tokens j ++ ts) ≡ print_from false (json_tokens j) ++ print_from true ts
value_then j ts = print_from-append false (json_tokens j) ts ∙ ap (λ (b : Bool). print_from false (json_tokens j) ++ print_from b ts) (value_ends false j)

-- a comma before a value
comma_before : (j : Json) (ts : List Token) → print_from true (json_tokens j ++ ts) ≡ 44 ∷ print_from false (json_tokens j ++ ts)
unfolding print_from
comma_before null ts = refl
comma_before (boolean b) ts = refl
comma_before (number s) ts = refl
comma_before (string s) ts = refl
comma_before (array js) ts = refl
comma_before (object ms) ts = refl

-- ---- lists
items_print : (limit : ℕ) (ts : List (List ℕ)) (h : AreValues limit ts) → print_from true (items_tokens (items_of limit ts h)) ≡ more ts ++ codes "]"
unfolding print_from more
items_print limit [] h = refl
items_print limit (t ∷ ts) h =
    comma_before (h.0).value (items_tokens (items_of limit ts h.1))
    ∙ ap (λ (xs : List ℕ). 44 ∷ xs)
    (value_then (h.0).value (items_tokens (items_of limit ts h.1))
    ∙ ap₂ (λ (xs ys : List ℕ). xs ++ ys) (h.0).prints (items_print limit ts h.1)
    ∙ sym (append_assoc t (more ts) (codes "]")))

list_prints : (limit : ℕ) (ts : List (List ℕ)) (h : AreValues limit ts) → print_from false (json_tokens (array (items_of limit ts h))) ≡ list ts
unfolding print_from list with_commas
list_prints limit [] h = refl
list_prints limit (t ∷ ts) h =
    ap (λ (xs : List ℕ). 91 ∷ xs)
    (value_then (h.0).value (items_tokens (items_of limit ts h.1))
    ∙ ap₂ (λ (xs ys : List ℕ). xs ++ ys) (h.0).prints (items_print limit ts h.1)
    ∙ sym (append_assoc t (more ts) (codes "]"))
    ∙ ap (λ (xs : List ℕ). xs ++ codes "]") (sym (comma_first t ts)))

-- ---- objects
-- a key, its value and what follows that
member_then : (key own t : List ℕ) (j : Json) (ts : List Token) → t ≡ quoted key ++ (58 ∷ own) → print_from false (json_tokens j) ≡ own
    → (quoted key ++ 58 ∷ []) ++ print_from false (json_tokens j ++ ts) ≡ t ++ print_from true ts
member_then key own t j ts is prints =
    ap (λ (xs : List ℕ). (quoted key ++ 58 ∷ []) ++ xs) (value_then j ts ∙ ap (λ (xs : List ℕ). xs ++ print_from true ts) prints)
    ∙ append_assoc (quoted key) (58 ∷ []) (own ++ print_from true ts)
    ∙ sym (append_assoc (quoted key) (58 ∷ own) (print_from true ts))
    ∙ ap (λ (xs : List ℕ). xs ++ print_from true ts) (sym is)

members_print : (limit : ℕ) (ts : List (List ℕ)) (h : AreMembers limit ts) → print_from true (members_tokens (members_of limit ts h)) ≡ more ts ++ codes "}"
unfolding print_from more
members_print limit [] h = refl
members_print limit (t ∷ ts) h =
    ap (λ (xs : List ℕ). 44 ∷ xs)
    (member_then (h.0).key (h.0).own t (h.0).holds.value (members_tokens (members_of limit ts h.1)) (h.0).is (h.0).holds.prints
    ∙ ap (λ (xs : List ℕ). t ++ xs) (members_print limit ts h.1)
    ∙ sym (append_assoc t (more ts) (codes "}")))

object_prints : (limit : ℕ) (ts : List (List ℕ)) (h : AreMembers limit ts) → print_from false (json_tokens (object (members_of limit ts h))) ≡ text.object ts
unfolding print_from text.object with_commas
object_prints limit [] h = refl
object_prints limit (t ∷ ts) h =
    ap (λ (xs : List ℕ). 123 ∷ xs)
    (member_then (h.0).key (h.0).own t (h.0).holds.value (members_tokens (members_of limit ts h.1)) (h.0).is (h.0).holds.prints
    ∙ ap (λ (xs : List ℕ). t ++ xs) (members_print limit ts h.1)
    ∙ sym (append_assoc t (more ts) (codes "}"))
    ∙ ap (λ (xs : List ℕ). xs ++ codes "}") (sym (comma_first t ts)))

-- ---- how deep they nest
items_shallow : (limit : ℕ) (ts : List (List ℕ)) (h : AreValues limit ts) → items_depth (items_of limit ts h) ≤ limit
items_shallow limit [] h = omega arith
items_shallow limit (t ∷ ts) h = omega (arith, (h.0).shallow, items_shallow limit ts h.1)

members_shallow : (limit : ℕ) (ts : List (List ℕ)) (h : AreMembers limit ts) → members_depth (members_of limit ts h) ≤ limit
members_shallow limit [] h = omega arith
members_shallow limit (t ∷ ts) h = omega (arith, (h.0).holds.shallow, members_shallow limit ts h.1)

-- ---- their numbers and strings
items_leaves : (limit : ℕ) (ts : List (List ℕ)) (h : AreValues limit ts) → ItemsHavePlainLeaves (items_of limit ts h)
items_leaves limit [] h = tt
items_leaves limit (t ∷ ts) h = ((h.0).leaves, items_leaves limit ts h.1)

members_leaves : (limit : ℕ) (ts : List (List ℕ)) (h : AreMembers limit ts) → MembersHavePlainLeaves (members_of limit ts h)
members_leaves limit [] h = tt
members_leaves limit (t ∷ ts) h = ((h.0).holds.leaves, members_leaves limit ts h.1)

-- ---- their texts
member_text : (limit : ℕ) (t : List ℕ) → IsMember limit t → IsLineText t
member_text limit t h =
    subst IsLineText (sym h.is) (text_then (quoted h.key) (58 ∷ h.own) (key_text h.key h.key_ascii) (text_then (58 ∷ []) h.own (visible (58 ∷ []) refl refl) h.holds.line_text))

abbrev AreLineTexts : List (List ℕ) → Type 0
AreLineTexts [] = ⊤
AreLineTexts (t ∷ ts) = IsLineText t × AreLineTexts ts

value_texts : (limit : ℕ) (ts : List (List ℕ)) → AreValues limit ts → AreLineTexts ts
value_texts limit [] h = tt
value_texts limit (t ∷ ts) h = ((h.0).line_text, value_texts limit ts h.1)

member_texts : (limit : ℕ) (ts : List (List ℕ)) → AreMembers limit ts → AreLineTexts ts
member_texts limit [] h = tt
member_texts limit (t ∷ ts) h = (member_text limit t h.0, member_texts limit ts h.1)

more_text : (ts : List (List ℕ)) → AreLineTexts ts → IsLineText (more ts)
unfolding more
more_text [] h = no_text
more_text (t ∷ ts) h = text_then (44 ∷ t) (more ts) (text_then (44 ∷ []) t (visible (44 ∷ []) refl refl) h.0) (more_text ts h.1)

commas_text : (ts : List (List ℕ)) → AreLineTexts ts → IsLineText (with_commas ts)
unfolding with_commas
commas_text [] h = no_text
commas_text (t ∷ ts) h = subst IsLineText (sym (comma_first t ts)) (text_then t (more ts) h.0 (more_text ts h.1))

-- a text between two bytes
between_text : (first last : ℕ) (t : List ℕ) → IsLineText (first ∷ []) → IsLineText (last ∷ []) → IsLineText t → IsLineText (first ∷ (t ++ (last ∷ [])))
between_text first last t begins ends h = text_then (first ∷ []) (t ++ (last ∷ [])) begins (text_then t (last ∷ []) h ends)

-- ---- what values are
pub items_value : (limit : ℕ) (ts : List (List ℕ)) → AreValues limit ts → IsValue (suc limit) (list ts)
unfolding list
items_value limit ts h = record {
  value = array (items_of limit ts h);
  prints = list_prints limit ts h;
  line_text = between_text 91 93 (with_commas ts) (visible _ refl refl) (visible _ refl refl) (commas_text ts (value_texts limit ts h));
  shallow = omega (arith, items_shallow limit ts h);
  leaves = items_leaves limit ts h;
}

pub members_value : (limit : ℕ) (ts : List (List ℕ)) → AreMembers limit ts → IsValue (suc limit) (text.object ts)
unfolding text.object
members_value limit ts h = record {
  value = object (members_of limit ts h);
  prints = object_prints limit ts h;
  line_text = between_text 123 125 (with_commas ts) (visible _ refl refl) (visible _ refl refl) (commas_text ts (member_texts limit ts h));
  shallow = omega (arith, members_shallow limit ts h);
  leaves = members_leaves limit ts h;
}

-- a line of members is the text of an object
pub object_text : (ts : List (List ℕ)) → AreMembers 127 ts → (members : Members) × IsTextOf (object members) (text.object ts)
unfolding members_value
object_text ts h = let v = members_value 127 ts h in (members_of 127 ts h, record { prints = v.prints; utf8 = v.line_text.utf8; one_line = v.line_text.one_line; none_hidden = v.line_text.none_hidden; shallow = v.shallow; leaves = v.leaves })

pub is_string : (limit : ℕ) (t : List ℕ) → IsUtf8 t → IsValue limit (shown_string t)
unfolding print_from
is_string limit t utf8 = record { value = string t; prints = append-nil (shown_string t); line_text = shown_text t utf8; shallow = omega arith; leaves = utf8 }

-- one of ASCII
pub is_word : (limit : ℕ) (t : List ℕ) → are_ascii t ≡ true → IsValue limit (quoted t)
is_word limit t h = subst (IsValue limit) (ascii_string t h) (is_string limit t (ascii t h))

pub is_boolean : (limit : ℕ) (b : Bool) → IsValue limit (text.boolean b)
unfolding print_from
is_boolean limit true = record { value = boolean true; prints = refl; line_text = visible _ refl refl; shallow = omega arith; leaves = tt }
is_boolean limit false = record { value = boolean false; prints = refl; line_text = visible _ refl refl; shallow = omega arith; leaves = tt }

-- decimal digits, however many
digit_then : (d : ℕ) (acc : List ℕ) → d < 10 → IsLineText acc → IsLineText (digit_glyph false d ∷ acc)
digit_then d acc small h = text_then (digit_glyph false d ∷ []) acc (visible (digit_glyph false d ∷ []) (grind (arith, common_steps)) (grind (arith, common_steps))) h

digits_text : (k n : ℕ) (acc : List ℕ) → IsLineText acc → IsLineText (digits_onto k 10 false n acc)
digits_text zero n acc h = h
digits_text (suc k) n acc h = by (n / 10 == 0) (digits_text k (n / 10) (digit_glyph false (n % 10) ∷ acc) (digit_then (n % 10) acc (omega arith) h))
  where
    by : (b : Bool) → IsLineText (digits_onto k 10 false (n / 10) (digit_glyph false (n % 10) ∷ acc))
        → IsLineText (if b then digit_glyph false (n % 10) ∷ acc else digits_onto k 10 false (n / 10) (digit_glyph false (n % 10) ∷ acc))
    by true others = digit_then (n % 10) acc (omega arith) h
    by false others = others

pub is_number : (limit n : ℕ) → IsValue limit (decimal n)
unfolding print_from digits
is_number limit n = record { value = number (decimal n); prints = append-nil (decimal n); line_text = digits_text 64 n [] no_text; shallow = omega arith; leaves = (n, refl) }
