-- Each string of a string table is at its offset.
use Rattle.std.proofs.Common.{◌≡◌, ℕ, zero, suc, ◌+◌, true, false, List, [], ◌∷◌, ◌++◌, length, None, refl, sym, ap, subst, ◌∙◌, append_assoc, length-append, arith, inl, inr}
use Rattle.std.specs.Prelude.{◌||◌, ◌==◌}
use Rattle.std.specs.Str.{bytes_eq}
use Rattle.std.proofs.lemmas.Bool.{cases_Bool, or_cases, or_left, or_right, or_parts}
use Rattle.std.proofs.lemmas.List.Folds.{list_any-append}
use Rattle.std.proofs.lemmas.Slice.Eq.{bytes_eq-Decides}
use Rattle.pe_view.specs.Text.{zero_ended}
use Rattle.coff_read.specs.Strings.{is_among, with_string, with_strings, offset_from, string_bytes}
use Rattle.coff_object.specs.WriteFaults.{has_zero}

pub same_bytes : (a b : List ℕ) → bytes_eq a b ≡ true → a ≡ b
same_bytes a b e = (bytes_eq-Decides a b).0 e

pub equal_bytes : (a : List ℕ) → bytes_eq a a ≡ true
equal_bytes a = (bytes_eq-Decides a a).1 refl

in-append : (text : List ℕ) (xs ys : List (List ℕ)) → (is_among text xs || is_among text ys) ≡ true → is_among text (xs ++ ys) ≡ true
in-append text xs ys e = list_any-append (bytes_eq text) xs ys ∙ e

in-with_string : (text : List ℕ) (table : List (List ℕ)) (t : List ℕ) → is_among text table ≡ true → is_among text (with_string table t) ≡ true
in-with_string text table t is = elim (cases_Bool (is_among t table)) [
  | inl there ↦ rw there is
  | inr new ↦ rw new (in-append text table (t ∷ []) (or_left _ _ is))
]

in-with_strings : (text : List ℕ) (table texts : List (List ℕ)) → is_among text table ≡ true → is_among text (with_strings table texts) ≡ true
in-with_strings text table [] is = is
in-with_strings text table (t ∷ texts) is = in-with_strings text (with_string table t) texts (in-with_string text table t is)

pub in-new : (table : List (List ℕ)) (t : List ℕ) → is_among t (with_string table t) ≡ true
in-new table t = elim (cases_Bool (is_among t table)) [
  | inl there ↦ rw there there
  | inr new ↦ rw new (in-append t table (t ∷ []) (or_right _ _ (or_left _ _ (equal_bytes t))))
]

-- each of the strings is in the table
pub in-all : (text : List ℕ) (table texts : List (List ℕ)) → is_among text texts ≡ true → is_among text (with_strings table texts) ≡ true
in-all text table [] is = absurd cc
in-all text table (t ∷ texts) is = elim (or_cases (bytes_eq text t) (is_among text texts) is) [
  | inl same ↦
      in-with_strings text (with_string table t) texts (subst (λ (x : List ℕ). is_among x (with_string table t) ≡ true) (sym (same_bytes text t same)) (in-new table t))
  | inr later ↦ in-all text (with_string table t) texts later
]

pub in-first : (text : List ℕ) (table texts : List (List ℕ)) → is_among text table ≡ true → is_among text (with_strings table texts) ≡ true
in-first = in-with_strings

-- where a string of a table is in its bytes
pub record IsStored (at : ℕ) (table : List (List ℕ)) (text : List ℕ) : Type 0 where
  pub front : List ℕ
  pub back : List ℕ
  pub bytes : string_bytes table ≡ front ++ ((text ++ 0 ∷ []) ++ back)
  pub offset : offset_from at table text ≡ at + length front

pub is_stored : (at : ℕ) (table : List (List ℕ)) (text : List ℕ) → is_among text table ≡ true → IsStored at table text
is_stored at [] text is = absurd cc
is_stored at (t ∷ table) text is = elim (cases_Bool (bytes_eq text t)) [
  | inl same ↦
      (let e : text ≡ t = same_bytes text t same in
      record {
        front = [];
        back = string_bytes table;
        bytes = ap (λ (x : List ℕ). (x ++ 0 ∷ []) ++ string_bytes table) (sym e);
        offset = rw same (omega arith);
      })
  | inr other ↦
      (let later : is_among text table ≡ true = rw other at is in
      let s = is_stored (at + length t + 1) table text later in
      record {
        front = (t ++ 0 ∷ []) ++ s.front;
        back = s.back;
        bytes = ap (λ (bs : List ℕ). (t ++ 0 ∷ []) ++ bs) s.bytes ∙ sym (append_assoc (t ++ 0 ∷ []) s.front ((text ++ 0 ∷ []) ++ s.back));
        offset =
            (let len : length ((t ++ 0 ∷ []) ++ s.front) ≡ length (t ++ 0 ∷ []) + length s.front = length-append (t ++ 0 ∷ []) s.front in
            let one : length (t ++ 0 ∷ []) ≡ length t + 1 = length-append t (0 ∷ []) in
            let more = s.offset in
            rw other (omega arith));
      })
]

-- a string without a zero byte has no end
pub zero_ended-open : (text : List ℕ) → has_zero text ≡ false → zero_ended text ≡ None
zero_ended-open [] none = refl
zero_ended-open (zero ∷ text) none = absurd cc
zero_ended-open (suc b ∷ text) none =
    let later : has_zero text ≡ false = (or_parts (suc b == 0) (has_zero text) none).1 in
    rw (zero_ended-open text later) refl
