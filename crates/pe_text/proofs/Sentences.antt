-- A fault in words is short.
use Rattle.std.proofs.Common.{ℕ, ◌≡◌, ◌+◌, ◌≤◌, Bool, true, List, [], ◌∷◌, ◌++◌, length, take, refl, arith, ◌∙◌, inl, inr, length-append}
use Rattle.std.specs.Prelude.{nat_le, ◌==◌, codes, unwrap_or}
use Rattle.std.specs.List.{list_all}
use Rattle.std.proofs.lemmas.Bool.{cases_Bool, leb-true, and_parts}
use Rattle.std.proofs.lemmas.List.{take_all}
use Rattle.pe_view.specs.declared.fault.Place.{Place}
use Rattle.pe_view.specs.declared.fault.Place.TheVariants.{File, Rva, Address, Item}
use Rattle.pe_view.specs.declared.fault.Fault.{Fault}
use Rattle.pe_text.specs.FaultWords.{Words, words_in, rules, words_of, at_words, place_number, sentence}

abbrev size : Words → ℕ
size words = length words.0 + length words.1

abbrev is_short : ℕ × Words → Bool
is_short row = nat_le (size row.1) 200

-- the words of each fault
rules_are_short : list_all is_short rules ≡ true
unfolding rules
rules_are_short = refl

among : (rows : List (ℕ × Words)) (number : ℕ) (other : Words) → size other ≤ 200 → list_all is_short rows ≡ true → size (unwrap_or (words_in rows number) other) ≤ 200
among [] number other short all = short
among (row ∷ rows) number other short all =
    let parts = and_parts (is_short row) (list_all is_short rows) all in
    elim (cases_Bool (number == row.0)) [
      | inl same ↦ rw same (leb-true (size row.1) 200 parts.0)
      | inr other_number ↦ rw other_number (among rows number other short parts.1)
    ]

at_is_short : (place : Place) → length (at_words place) ≤ 10
at_is_short (File offset) = omega arith
at_is_short (Rva rva) = omega arith
at_is_short (Address address) = omega arith
at_is_short (Item item) = omega arith

-- a fault in words is not cut
pub not_cut : (fault : Fault) (words : Words) (at number : List ℕ) → words ≡ words_of fault.number → at ≡ at_words fault.place → number ≡ place_number fault.place → length number ≤ 40
    → take 256 (words.0 ++ at ++ number ++ codes ": " ++ words.1) ≡ sentence fault
not_cut fault words at number w a n short =
    let of_words : size (words_of fault.number) ≤ 200 = among rules fault.number (codes "place", codes "no fault has this number") (omega arith) rules_are_short in
    let of_at = at_is_short fault.place in
    let in_words : size words ≤ 200 = rw w of_words in
    let in_at : length at ≤ 10 = rw a of_at in
    let one = length-append words.0 at in
    let two = length-append (words.0 ++ at) number in
    let three = length-append (words.0 ++ at ++ number) (codes ": ") in
    let four = length-append (words.0 ++ at ++ number ++ codes ": ") words.1 in
    take_all 256 _ (omega (arith, in_words, in_at, short, one, two, three, four)) ∙ rw (w, a, n) refl
