-- Numbers in sequence.
use Rattle.std.proofs.Common.{◌≡◌, ℕ, List, ◌++◌, sym, ap, ◌∙◌, append_assoc}
use Rattle.pe_numbers.specs.declared.number.Number.{Number}
use Rattle.pe_numbers.specs.Numbers.{numbers_bytes}
use Rattle.pe_numbers.specs.ReadBack.{bytes-append}

pub both : (a b c : List ℕ) (xs ys : List Number) → b ≡ a ++ numbers_bytes xs → c ≡ b ++ numbers_bytes ys → c ≡ a ++ numbers_bytes (xs ++ ys)
both a b c xs ys first second =
    second ∙ ap (λ (l : List ℕ). l ++ numbers_bytes ys) first ∙ append_assoc a (numbers_bytes xs) (numbers_bytes ys) ∙ ap (λ (l : List ℕ). a ++ l) (sym (bytes-append xs ys))
