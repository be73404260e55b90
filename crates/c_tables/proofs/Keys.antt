-- UTF-16 units that are a text in ASCII.
use Rattle.std.proofs.Common.{◌≡◌, ◌==◌, ◌&&◌, ◌*◌, ℕ, true, false, List, [], ◌∷◌, length, refl, arith}
use Rattle.std.specs.Str.{bytes_eq}
use Rattle.std.proofs.lemmas.Bool.{and_parts, false_from_ne_true}
use Rattle.pe_version.specs.Parts.{utf16}

-- as many units as characters
same_len : (units text : List ℕ) → bytes_eq units (utf16 text) ≡ true → length units ≡ 2 * length text
same_len [] [] same = refl
same_len (u ∷ units) [] same = absurd cc same
same_len [] (c ∷ text) same = absurd cc same
same_len (u ∷ []) (c ∷ text) same = absurd cc ((and_parts (u == c) false same).1)
same_len (u ∷ v ∷ units) (c ∷ text) same =
    let rest = same_len units text (and_parts (v == 0) (bytes_eq units (utf16 text)) (and_parts (u == c) ((v == 0) && bytes_eq units (utf16 text)) same).1).1 in
    omega (arith, rest)

pub other_len : (units text : List ℕ) → (length units ≡ 2 * length text → ⊥) → bytes_eq units (utf16 text) ≡ false
other_len units text other = false_from_ne_true _ (λ same. other (same_len units text same))
