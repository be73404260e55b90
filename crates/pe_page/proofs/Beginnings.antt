-- The beginning of a name, which is shown as the name is.
use Rattle.std.proofs.Common.{◌≡◌, ◌∙◌, ℕ, zero, suc, List, [], ◌∷◌, length, take, refl, sym, ap, inl, inr, arith}
use Rattle.std.specs.Prelude.{nat_lt}
use Rattle.std.proofs.lemmas.Bool.{cases_lt, lt-ltb, le-ltb}
use Rattle.std.proofs.lemmas.List.{length-take}
use Rattle.pe_page.specs.Name.{cut_text}

take_of_more : (n : ℕ) (name : List ℕ) → take n (take (suc n) name) ≡ take n name
take_of_more zero name = refl
take_of_more (suc n) [] = refl
take_of_more (suc n) (byte ∷ name) = ap (λ (bytes : List ℕ). byte ∷ bytes) (take_of_more n name)

longer : (n : ℕ) (name : List ℕ) → nat_lt n (length (take (suc n) name)) ≡ nat_lt n (length name)
longer n name =
    let few = length-take (suc n) name in
    elim (cases_lt n (length name)) [
      | inl less ↦ lt-ltb n (length (take (suc n) name)) (omega (arith, few)) ∙ sym (lt-ltb n (length name) less)
      | inr not_less ↦ le-ltb n (length (take (suc n) name)) (omega (arith, few)) ∙ sym (le-ltb n (length name) (omega arith))
    ]

-- of a name of more bytes than are shown, one byte more decides it
pub shown_alike : (limit : ℕ) (name : List ℕ) → cut_text limit (take (suc limit) name) ≡ cut_text limit name
shown_alike limit name = rw (take_of_more limit name, longer limit name) refl
