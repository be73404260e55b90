-- Bytes that are written one after the other.
use Rattle.std.proofs.Common.{◌≡◌, ◌∙◌, ℕ, ◌+◌, List, ◌++◌, length, take, drop, Result, Ok, Err, is_err, true, false, sym, ap, append_assoc}
use Rattle.std.proofs.Math.Seq.{take-append_seam, take-append-add}
use Rattle.std.proofs.lemmas.List.{take-append-drop}
use Rattle.pe_text.specs.declared.device.Failed.{Failed}
use Rattle.pe_text.specs.TextWriter.{WritesAll}

-- a beginning of the first of two pieces
pub in_first : (before now a b : List ℕ) (k : ℕ) → now ≡ before ++ take k a → (n : ℕ) × (now ≡ before ++ take n (a ++ b))
in_first before now a b k is =
    let cut : take (length (take k a)) (a ++ b) ≡ take k a =
    ap (λ (xs : List ℕ). take (length (take k a)) (xs ++ b)) (sym (take-append-drop k a))
    ∙ ap (take (length (take k a))) (append_assoc (take k a) (drop k a) b)
    ∙ take-append_seam (take k a) (drop k a ++ b) in
    (length (take k a), is ∙ ap (λ (xs : List ℕ). before ++ xs) (sym cut))

-- the first piece, and a beginning of the second
pub in_second : (before mid now a b : List ℕ) (k : ℕ) → mid ≡ before ++ a → now ≡ mid ++ take k b → (n : ℕ) × (now ≡ before ++ take n (a ++ b))
in_second before mid now a b k first is =
    (length a + k, is ∙ ap (λ (xs : List ℕ). xs ++ take k b) first ∙ append_assoc before a (take k b) ∙ ap (λ (xs : List ℕ). before ++ xs) (sym (take-append-add a b k)))

-- the first piece was written, and then the second or a beginning of it
pub both : (before mid now a b : List ℕ) (c0 c1 c2 : ℕ) (result : Result (Unit {0}) Failed) → mid ≡ before ++ a → c1 ≡ c0
    → WritesAll mid now c1 c2 result b → WritesAll before now c0 c2 result (a ++ b)
both before mid now a b c0 c1 c2 (Ok x) first count written = (written.0 ∙ ap (λ (xs : List ℕ). xs ++ b) first ∙ append_assoc before a b, written.1 ∙ count)
both before mid now a b c0 c1 c2 (Err e) first count written = (in_second before mid now a b written.0.0 first written.0.1, written.1 ∙ ap (λ (n : ℕ). n + 1) count)

-- what was written, where the result was only asked whether it is an error
pub wrote_all : (before now piece : List ℕ) (count count' : ℕ) (result : Result (Unit {0}) Failed) → is_err result ≡ false → WritesAll before now count count' result piece → now ≡ before ++ piece
wrote_all before now piece count count' (Ok x) not_err written = written.0
wrote_all before now piece count count' (Err e) not_err written = absurd cc

pub wrote_some : (before now piece : List ℕ) (count count' : ℕ) (result : Result (Unit {0}) Failed) → is_err result ≡ true → WritesAll before now count count' result piece → (k : ℕ) × (now ≡ before ++ take k piece)
wrote_some before now piece count count' (Ok x) err written = absurd cc
wrote_some before now piece count count' (Err e) err written = written.0

pub counted_all : (before now piece : List ℕ) (count count' : ℕ) (result : Result (Unit {0}) Failed) → is_err result ≡ false → WritesAll before now count count' result piece → count' ≡ count
counted_all before now piece count count' (Ok x) not_err written = written.1
counted_all before now piece count count' (Err e) not_err written = absurd cc
