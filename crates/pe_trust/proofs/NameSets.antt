-- The sets of a name: the first, and those behind it; and the common name in the first, or else in those behind it.
use Rattle.std.proofs.Common.{◌≡◌, ◌∙◌, refl, ℕ, zero, suc, ◌≤◌, ◌<◌, List, [], ◌∷◌, length, sym, ap, arith}
use Rattle.std.specs.Prelude.{Option, None, Some, is_some}
use Rattle.std.proofs.lemmas.Bool.{false≢true}
use Rattle.pe_trust.specs.Signature.{SET, content_under}
use Rattle.pe_trust.specs.Names.{behind_set, common_name_in, common_name_of, first_common_name, or_other, set_then, sets_from, sets_in}
use Rattle.pe_trust.proofs.Rest.{shorter}

none_in_none : (most : ℕ) → sets_from most [] ≡ []
none_in_none zero = refl
none_in_none (suc most) = refl

no_bytes : (m : ℕ) (sets : List ℕ) → length sets ≤ 0 → sets_from m sets ≡ []
no_bytes m [] none = none_in_none m
no_bytes m (x ∷ xs) none = absurd (omega (arith, none))

enough : (m n : ℕ) (sets : List ℕ) → length sets ≤ m → length sets ≤ n → sets_from m sets ≡ sets_from n sets
enough zero n sets first second = sym (no_bytes n sets first)
enough (suc m) zero sets first second = no_bytes (suc m) sets second
enough (suc m) (suc n) sets first second =
    let less = shorter SET sets in
    ap (set_then (content_under SET sets)) (enough m n (behind_set sets) (omega (arith, less, first)) (omega (arith, less, second)))

sets_step : (sets : List ℕ) → sets_in sets ≡ set_then (content_under SET sets) (sets_in (behind_set sets))
sets_step [] = refl
sets_step (x ∷ xs) =
    let less = shorter SET (x ∷ xs) in
    ap (set_then (content_under SET (x ∷ xs))) (enough (length xs) (length (behind_set (x ∷ xs))) (behind_set (x ∷ xs)) (omega (arith, less)) (omega arith))

pub name_step : (sets set : List ℕ) → Some set ≡ content_under SET sets → common_name_of sets ≡ or_other (common_name_in set) (common_name_of (behind_set sets))
name_step sets set is =
    ap first_common_name (sets_step sets) ∙ ap (λ (o : Option (List ℕ)). first_common_name (set_then o (sets_in (behind_set sets)))) (sym is)

pub name_end : (sets : List ℕ) → None ≡ content_under SET sets → common_name_of sets ≡ None
name_end sets is =
    ap first_common_name (sets_step sets) ∙ ap (λ (o : Option (List ℕ)). first_common_name (set_then o (sets_in (behind_set sets)))) (sym is)

pub fewer_left : (sets set : List ℕ) → Some set ≡ content_under SET sets → length (behind_set sets) < length sets
fewer_left [] set is = absurd (false≢true (sym (ap (λ (o : Option (List ℕ)). is_some o) is)))
fewer_left (x ∷ xs) set is = let less = shorter SET (x ∷ xs) in omega (arith, less)
