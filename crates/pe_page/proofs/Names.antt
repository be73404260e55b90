-- Names that are shown as they are, and the widths of the others.
use Rattle.std.proofs.Common.{◌≡◌, ◌∙◌, ◌≤◌, ◌-◌, ◌&&◌, ℕ, zero, suc, Bool, true, false, List, [], ◌∷◌, length, get_or, ap, refl, sym, arith, inl, inr, rules}
use Rattle.std.specs.List.{list_all, range_with_len}
use Rattle.std.specs.Str.{chars, is_utf8, IsAscii, IsUtf8}
use Rattle.std.proofs.lemmas.List.FromFn.{get_or-range_with_len}
use Rattle.std.proofs.lemmas.List.Folds.{list_all_at}
use Rattle.std.proofs.lemmas.Bool.{cases_Bool}
use Rattle.std.proofs.lemmas.Str.{IsUtf8-from_ascii, encodes-IsAscii, encodes-chars, chars_from_encodes, is_utf8-from_IsUtf8, IsUtf8-from_is_utf8, length-le-encodes}
use Rattle.pe_text.specs.Text.{is_printable}
use Rattle.pe_page.specs.Name.{is_safe, is_safe_text, begins_plain, is_plain}

-- the bounds of a byte of printable ASCII
bounds : (byte : ℕ) → is_printable byte ≡ true → (0x20 ≤ byte) × (byte ≤ 0x7e)
bounds byte printable = search rules

-- a character of printable ASCII may be written to a terminal
printable_is_safe : (byte : ℕ) → is_printable byte ≡ true → is_safe byte ≡ true
printable_is_safe byte printable =
    let b = bounds byte printable in
    let at : get_or (range_with_len 0x20 95) (byte - 0x20) 0 ≡ byte = get_or-range_with_len 0x20 95 (byte - 0x20) 0 (omega (arith, b)) ∙ omega (arith, b) in
    elim (cases_Bool (is_safe (get_or (range_with_len 0x20 95) (byte - 0x20) 0))) [
      | inl safe ↦ ap is_safe (sym at) ∙ safe
      | inr other ↦ (let none = list_all_at is_safe (range_with_len 0x20 95) (byte - 0x20) 0 (omega (arith, b)) other in absurd cc)
    ]

and_false : (b : Bool) → (b && false) ≡ false
and_false true = refl
and_false false = refl

-- both parts of a true conjunction are true
parts : (p q : Bool) → (p && q) ≡ true → (p ≡ true) × (q ≡ true)
parts true q e = (refl, e)
parts false q e = absurd cc

ascii : (bs : List ℕ) → list_all is_printable bs ≡ true → IsAscii bs
ascii [] all i = omega arith
ascii (b ∷ bs) all zero = omega (arith, bounds b (parts _ _ all).0)
ascii (b ∷ bs) all (suc i) = ascii bs (parts _ _ all).1 i

safe : (bs : List ℕ) → list_all is_printable bs ≡ true → list_all is_safe bs ≡ true
safe [] all = refl
safe (b ∷ bs) all = rw (printable_is_safe b (parts _ _ all).0) (safe bs (parts _ _ all).1)

-- the characters of printable ASCII are its bytes
chars_are_bytes : (bs : List ℕ) → list_all is_printable bs ≡ true → chars bs ≡ bs
chars_are_bytes bs all = let a = ascii bs all in sym (chars_from_encodes bs bs (IsUtf8-from_ascii bs a) (encodes-IsAscii bs a))

-- printable ASCII may be written to a terminal
printable_safe_text : (bs : List ℕ) → list_all is_printable bs ≡ true → is_safe_text bs ≡ true
printable_safe_text bs all = rw (is_utf8-from_IsUtf8 bs (IsUtf8-from_ascii bs (ascii bs all)), chars_are_bytes bs all) (safe bs all)

-- a name of printable ASCII that begins plain is plain
pub bare_is_plain : (bs : List ℕ) → (begins_plain bs && list_all is_printable bs) ≡ true → is_plain bs ≡ true
bare_is_plain bs bare = let p = parts (begins_plain bs) (list_all is_printable bs) bare in rw (p.0, printable_safe_text bs p.1) refl

pub bare_chars : (bs : List ℕ) → (begins_plain bs && list_all is_printable bs) ≡ true → chars bs ≡ bs
bare_chars bs bare = chars_are_bytes bs (parts (begins_plain bs) _ bare).1

-- what is not UTF-8 may not be written to a terminal
pub other_is_not_safe : (bs : List ℕ) → (IsUtf8 bs → ⊥) → is_safe_text bs ≡ false
other_is_not_safe bs other = elim (cases_Bool (is_utf8 bs)) [
  | inl some ↦ absurd (other (IsUtf8-from_is_utf8 bs some))
  | inr none ↦ rw none refl
]

-- what is not UTF-8 is not plain
pub other_is_not_plain : (bs : List ℕ) → (IsUtf8 bs → ⊥) → is_plain bs ≡ false
other_is_not_plain bs other = rw (other_is_not_safe bs other) (and_false (begins_plain bs))

-- a name that is plain has no more characters than bytes
pub plain_has_few_chars : (bs : List ℕ) → is_plain bs ≡ true → length (chars bs) ≤ length bs
plain_has_few_chars bs plain =
    let text = parts (begins_plain bs) (is_safe_text bs) plain in
    let utf8 = IsUtf8-from_is_utf8 bs (parts (is_utf8 bs) _ text.1).0 in
    omega (arith, length-le-encodes (chars bs), ap length (encodes-chars bs utf8))
