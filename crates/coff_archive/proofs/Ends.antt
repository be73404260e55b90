-- A text ends where it does in the bytes before an offset, or else where one does from there on.
use Rattle.std.proofs.Common.{◌≡◌, ◌∙◌, ℕ, zero, suc, ◌+◌, ◌-◌, ◌*◌, ◌<◌, ◌≤◌, Bool, false, List, [], ◌∷◌, length, take, drop, Option, Some, None, refl, sym, ap, subst, arith, inl, inr, get_or, set, get_or-set_other, get_or-set_same}
use Rattle.std.specs.Prelude.{is_none, option_map}
use Rattle.std.specs.Option.{unwrap_or}
use Rattle.std.proofs.lemmas.Bool.{cases_Bool, cases_eq}
use Rattle.std.proofs.lemmas.List.{drop-drop, length-drop}
use Rattle.std.proofs.lemmas.Option.{same_Some}
use Rattle.std.proofs.Math.Seq.{drop-length}
use Rattle.coff_archive.specs.Bytes.{before, up_to}
use Rattle.coff_archive.specs.NameEnds.{end_from}
use Rattle.coff_archive.specs.Names.{ends_text, long_name, without_slash}
use Rattle.coff_archive.proofs.Texts.{up_to-le}

module _ (test : ℕ → Bool) where
  more-some : (b : ℕ) (o p : Option (List ℕ)) → ((text : List ℕ) → o ≡ Some text → p ≡ Some text) → (text : List ℕ) → option_map (λ t. b ∷ t) o ≡ Some text → option_map (λ t. b ∷ t) p ≡ Some text
  more-some b None p same text is = absurd cc is
  more-some b (Some rest) p same text is = ap (option_map (λ t. b ∷ t)) (same rest refl) ∙ is

  -- one that ends before the offset
  pub ends-before : (bytes : List ℕ) (n : ℕ) (text : List ℕ) → before test (take n bytes) ≡ Some text → before test bytes ≡ Some text
  ends-before bytes zero text is = absurd cc is
  ends-before [] (suc n) text is = absurd cc is
  ends-before (b ∷ bytes) (suc n) text is = elim (cases_Bool (test b)) [
    | inl here ↦ rw here (rw here at is)
    | inr not ↦ rw not (more-some b (before test (take n bytes)) (before test bytes) (ends-before bytes n) text (rw not at is))
  ]

  more-none : (b : ℕ) (o : Option (List ℕ)) → option_map (λ t. b ∷ t) o ≡ None → o ≡ None
  more-none b None is = refl
  more-none b (Some rest) is = absurd cc is

  longer : (b : ℕ) (bytes : List ℕ) (o : Option (List ℕ)) → length (unwrap_or (option_map (λ t. b ∷ t) o) (b ∷ bytes)) ≡ suc (length (unwrap_or o bytes))
  longer b bytes None = refl
  longer b bytes (Some rest) = refl

  -- none does
  pub ends-behind : (bytes : List ℕ) (n : ℕ) → n ≤ length bytes → before test (take n bytes) ≡ None → length (up_to test bytes) ≡ n + length (up_to test (drop n bytes))
  ends-behind bytes zero inside none = omega arith
  ends-behind [] (suc n) inside none = absurd (omega (arith, inside))
  ends-behind (b ∷ bytes) (suc n) inside none = elim (cases_Bool (test b)) [
    | inl here ↦ absurd cc (rw here at none)
    | inr not ↦
        let rest = ends-behind bytes n (omega (arith, inside)) (more-none b (before test (take n bytes)) (rw not at none)) in
        let one = longer b bytes (before test bytes) in
        rw not (omega (arith, rest, one))
  ]

  begins-more : (b : ℕ) (bytes : List ℕ) (o : Option (List ℕ)) → ((text : List ℕ) → o ≡ Some text → take (length text) bytes ≡ text) → (text : List ℕ) → option_map (λ t. b ∷ t) o ≡ Some text → take (length text) (b ∷ bytes) ≡ text
  begins-more b bytes None begins text is = absurd cc is
  begins-more b bytes (Some rest) begins text is =
      subst (λ (t : List ℕ). take (length t) (b ∷ bytes) ≡ t) (same_Some (b ∷ rest) text is) (ap (λ (t : List ℕ). b ∷ t) (begins rest refl))

  -- the bytes begin with it
  pub begins : (bytes text : List ℕ) → before test bytes ≡ Some text → take (length text) bytes ≡ text
  begins [] text is = absurd cc is
  begins (b ∷ bytes) text is = elim (cases_Bool (test b)) [
    | inl here ↦ subst (λ (t : List ℕ). take (length t) (b ∷ bytes) ≡ t) (same_Some [] text (rw here at is)) refl
    | inr not ↦ begins-more b bytes (before test bytes) (begins bytes) text (rw not at is)
  ]

  some-text : (o : Option (List ℕ)) (bytes : List ℕ) → is_none o ≡ false → o ≡ Some (unwrap_or o bytes)
  some-text None bytes is = absurd cc is
  some-text (Some text) bytes is = refl

  -- it is as many of the bytes as come before its end
  pub text-taken : (bytes : List ℕ) → is_none (before test bytes) ≡ false → before test bytes ≡ Some (take (length (up_to test bytes)) bytes)
  text-taken bytes is =
      let some = some-text (before test bytes) bytes is in
      some ∙ ap Some (sym (begins bytes (up_to test bytes) some))

-- of long names: where one ends, by where it does before an offset or from there on
pub end-here : (names : List ℕ) (start stop : ℕ) (text : List ℕ) → before ends_text (take (stop - start) (drop start names)) ≡ Some text → start + length text ≡ end_from names start
unfolding end_from
end-here names start stop text is =
    ap (λ (o : Option (List ℕ)). start + length (unwrap_or o (drop start names))) (sym (ends-before ends_text (drop start names) (stop - start) text is))

pub end-later : (names : List ℕ) (start stop : ℕ) → start ≤ stop → stop ≤ length names → before ends_text (take (stop - start) (drop start names)) ≡ None → end_from names stop ≡ end_from names start
unfolding end_from
end-later names start stop order inside none =
    let left = length-drop start names in
    let more = ends-behind ends_text (drop start names) (stop - start) (omega (arith, left, inside)) none in
    let here : start + (stop - start) ≡ stop = omega (arith, order) in
    let further : drop (stop - start) (drop start names) ≡ drop stop names = drop-drop (stop - start) start names ∙ ap (λ (n : ℕ). drop n names) here in
    let same = ap (λ (bytes : List ℕ). length (up_to ends_text bytes)) further in
    omega (arith, more, same, order)

-- at the end of the bytes, and between
pub end-of-all : (names : List ℕ) → length names ≡ end_from names (length names)
unfolding end_from
end-of-all names = rw (drop-length names) (omega arith)

pub end-order : (names : List ℕ) (start : ℕ) → start ≤ end_from names start
unfolding end_from
end-order names start = omega arith

pub end-inside : (names : List ℕ) (start : ℕ) → start ≤ length names → end_from names start ≤ length names
unfolding end_from
end-inside names start inside =
    let le = up_to-le ends_text (drop start names) in
    let left = length-drop start names in
    omega (arith, le, left, inside)

-- the long name at an offset, by where it ends
pub long-name-taken : (names : List ℕ) (offset end : ℕ) → is_none (before ends_text (drop offset names)) ≡ false → end ≡ end_from names offset → Some (without_slash (take (end - offset) (drop offset names))) ≡ long_name names offset
unfolding end_from
long-name-taken names offset end is ends =
    let taken = text-taken ends_text (drop offset names) is in
    let len : length (up_to ends_text (drop offset names)) ≡ end - offset = omega (arith, ends) in
    sym (ap (option_map without_slash) (taken ∙ ap (λ (n : ℕ). Some (take n (drop offset names))) len))

-- one more block is kept
pub block-kept : (names kept : List ℕ) (count index end : ℕ) → index < length kept → end ≡ end_from names (256 * index)
    → ((block : ℕ) → index + 1 ≤ block → block < count → get_or kept block 0 ≡ end_from names (256 * block))
    → (block : ℕ) → index ≤ block → block < count → get_or (set kept index end) block 0 ≡ end_from names (256 * block)
block-kept names kept count index end inside is each block from below = elim (cases_eq block index) [
  | inl same ↦ rw (same, get_or-set_same) is
  | inr other ↦ rw get_or-set_other (each block (omega (arith, from, other)) below)
]
