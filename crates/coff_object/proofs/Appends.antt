-- One piece after another.
use Rattle.std.proofs.Common.{◌≡◌, ℕ, suc, ◌-◌, List, [], ◌∷◌, ◌++◌, length, ap, ◌∙◌, append_assoc, arith}
use Rattle.std.specs.Prelude.{replicate}
use Rattle.coff_read.specs.Names.{decimal_digits, padded}

pub and_then : {X : Type 0} (a b c x y : List X) → b ≡ a ++ x → c ≡ b ++ y → c ≡ a ++ (x ++ y)
and_then a b c x y first second = second ∙ ap (λ (l : List _). l ++ y) first ∙ append_assoc a x y

-- `/`, the digits and the zero bytes after them are the name field of an offset
pub offset_field : (n : ℕ) (old slash text new digits : List ℕ) → digits ≡ decimal_digits n → slash ≡ old ++ 47 ∷ [] → text ≡ slash ++ digits → new ≡ text ++ replicate (7 - length digits) 0
    → new ≡ old ++ padded (47 ∷ decimal_digits n)
offset_field n old slash text new digits is first second third =
    let count : 7 - length digits ≡ 8 - suc (length digits) = omega arith in
    third ∙ ap (λ (k : ℕ). text ++ replicate k 0) count ∙ ap (λ (t : List ℕ). t ++ replicate (8 - suc (length digits)) 0) (and_then old slash text (47 ∷ []) digits first second)
    ∙ append_assoc old (47 ∷ digits) (replicate (8 - suc (length digits)) 0) ∙ ap (λ (ds : List ℕ). old ++ padded (47 ∷ ds)) is
