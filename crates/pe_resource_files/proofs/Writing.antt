-- Pieces that are written one after the other.
use Rattle.std.proofs.Common.{Bor, ◌≡◌, ◌∙◌, ℕ, suc, ◌+◌, ◌<◌, List, [], ◌∷◌, ◌++◌, length, take, drop, get_or, Result, Ok, Err, refl, ap, sym, append_assoc}
use Rattle.std.specs.Prelude.{flat_map, map}
use Rattle.std.proofs.Math.Seq.{drop-cons, take-append_seam, take-append-add}
use Rattle.std.proofs.lemmas.List.{take-append-drop}
use Rattle.std.proofs.lemmas.Grind.{flat_map-append}
use Rattle.pe_text.specs.declared.device.Failed.{Failed}
use Rattle.pe_text.specs.TextWriter.{WritesAll}

-- a beginning of the first piece
pub in_first : (before now a b : List ℕ) (k : ℕ) → now ≡ before ++ take k a → (n : ℕ) × (now ≡ before ++ take n (a ++ b))
in_first before now a b k is =
    let cut : take (length (take k a)) (a ++ b) ≡ take k a =
    ap (λ (xs : List ℕ). take (length (take k a)) (xs ++ b)) (sym (take-append-drop k a))
    ∙ ap (take (length (take k a))) (append_assoc (take k a) (drop k a) b)
    ∙ take-append_seam (take k a) (drop k a ++ b) in
    (length (take k a), is ∙ ap (λ (xs : List ℕ). before ++ xs) (sym cut))

-- the first piece, and a beginning of the second
pub in_second : (before mid now a b : List ℕ) (k : ℕ) → mid ≡ before ++ a → now ≡ mid ++ take k b → (n : ℕ) × (now ≡ before ++ take n (a ++ b))
in_second before mid now a b k first is =
    (length a + k, is ∙ ap (λ (xs : List ℕ). xs ++ take k b) first ∙ append_assoc before a (take k b) ∙ ap (λ (xs : List ℕ). before ++ xs) (sym (take-append-add a b k)))

-- all parts: those before one, that one, and those after it
pub around : (parts : List (Bor (List ℕ))) (i : ℕ) (d : Bor (List ℕ)) → i < length parts
    → let f : Bor (List ℕ) → List ℕ = λ part. part.now in flat_map f parts ≡ flat_map f (take i parts) ++ (f (get_or parts i d) ++ flat_map f (drop (suc i) parts))
around parts i d lt =
    let f : Bor (List ℕ) → List ℕ = λ part. part.now in
    ap (flat_map f) (sym (take-append-drop i parts)) ∙ flat_map-append f (take i parts) (drop i parts)
    ∙ ap (λ (xs : List (Bor (List ℕ))). flat_map f (take i parts) ++ flat_map f xs) (drop-cons parts i d lt)

-- a beginning of one of the parts
pub in_part : (before mid now : List ℕ) (parts : List (Bor (List ℕ))) (i k : ℕ) (d : Bor (List ℕ)) → i < length parts
    → mid ≡ before ++ flat_map (λ part. part.now) (take i parts) → now ≡ mid ++ take k (get_or parts i d).now
    → (n : ℕ) × (now ≡ before ++ take n (flat_map (λ part. part.now) parts))
in_part before mid now parts i k d lt done is =
    let f : Bor (List ℕ) → List ℕ = λ part. part.now in
    let one = in_first mid now (f (get_or parts i d)) (flat_map f (drop (suc i) parts)) k is in
    let all = in_second before mid now (flat_map f (take i parts)) (f (get_or parts i d) ++ flat_map f (drop (suc i) parts)) one.0 done one.1 in
    (all.0, all.1 ∙ ap (λ (xs : List ℕ). before ++ take all.0 xs) (sym (around parts i d lt)))

-- the first piece was written, and then the second or a beginning of it
pub both : (before mid now a b : List ℕ) (c0 c1 c2 : ℕ) (result : Result (Unit {0}) Failed) → mid ≡ before ++ a → c1 ≡ c0
    → WritesAll mid now c1 c2 result b → WritesAll before now c0 c2 result (a ++ b)
both before mid now a b c0 c1 c2 (Ok x) first count written = (written.0 ∙ ap (λ (xs : List ℕ). xs ++ b) first ∙ append_assoc before a b, written.1 ∙ count)
both before mid now a b c0 c1 c2 (Err e) first count written = (in_second before mid now a b written.0.0 first written.0.1, written.1 ∙ ap (λ (n : ℕ). n + 1) count)

pub all_parts : (parts : List (Bor (List ℕ))) → flat_map (λ (part : List ℕ). part) (map (λ (part : Bor (List ℕ)). part.now) parts) ≡ flat_map (λ (part : Bor (List ℕ)). part.now) parts
all_parts [] = refl
all_parts (part ∷ parts) = ap (λ (xs : List ℕ). part.now ++ xs) (all_parts parts)
