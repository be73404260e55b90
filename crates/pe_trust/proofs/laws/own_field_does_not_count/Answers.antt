use Rattle.std.proofs.Common.{◌≡◌, ◌+◌, ◌*◌, ◌/◌, ℕ, List, length, false, refl, inl, inr}
use Rattle.std.proofs.lemmas.Bool.{cases_Bool}
use Rattle.pe_view.specs.Number.{byte_of, is_in}
use Rattle.pe_trust.specs.CheckSum.{byte_without, word_at, check_sum_of}
use Rattle.pe_trust.proofs.Sums.{span-same}
use Rattle.pe_trust.proofs.laws.own_field_does_not_count.Goals as goal

module _ (file other : List ℕ) (field : ℕ) (same : (offset : ℕ) → is_in field 4 offset ≡ false → byte_of file offset ≡ byte_of other offset) where
  bytes_same : (offset : ℕ) → byte_without file field offset ≡ byte_without other field offset
  bytes_same offset = elim (cases_Bool (is_in field 4 offset)) [
    | inl inside ↦ rw inside refl
    | inr outside ↦ rw outside (same offset outside)
  ]

  words_same : (i : ℕ) → word_at file field i ≡ word_at other field i
  words_same i = rw (bytes_same (2 * i), bytes_same (2 * i + 1)) refl

  sums_same : length file ≡ length other → check_sum_of file field ≡ check_sum_of other field
  sums_same len =
      let sum = span-same (word_at file field) (word_at other field) 0 ((length other + 1) / 2) (λ i le lt. words_same i) in
      rw (len, sum) refl

pub returns : goal.returns
returns c file other field len same = sums_same file other field same len
