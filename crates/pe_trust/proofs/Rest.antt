-- What is behind an element is shorter; so as many steps as there are bytes reach the end of a list of certificates.
use Rattle.std.proofs.Common.{◌≡◌, ◌∙◌, refl, ℕ, zero, suc, ◌-◌, ◌%◌, ◌≤◌, Bool, cond, true, false, List, [], ◌∷◌, length, drop, take, sym, ap, inl, inr, arith}
use Rattle.std.specs.Prelude.{◌==◌, ◌&&◌, nat_le, nat_lt, Option, None, Some, unwrap_or, option_and_then}
use Rattle.std.proofs.lemmas.Bool.{cases_Bool}
use Rattle.std.proofs.lemmas.List.{length-drop}
use Rattle.byteorder.specs.Endian.{big_number}
use Rattle.pe_trust.specs.Der.{Element, element_of, long_element, sized_element}
use Rattle.pe_trust.specs.Signature.{SEQUENCE, behind}
use Rattle.pe_trust.specs.Signers.{Signer, and_then_rest, behind_first, signer_of, signers_from, signers_in}

-- an element, if there is one, has at most so many bytes behind it
abbrev LeavesAtMost : ℕ → Option Element → Type 0
LeavesAtMost most None = Unit {0}
LeavesAtMost most (Some e) = length e.rest ≤ most

fewer : (a b : ℕ) (o : Option Element) → a ≤ b → LeavesAtMost a o → LeavesAtMost b o
fewer a b None le few = tt
fewer a b (Some e) le few = omega (arith, le, few)

chosen : (most : ℕ) (b : Bool) (x y : Option Element) → LeavesAtMost most x → LeavesAtMost most y → LeavesAtMost most (cond b x y)
chosen most true x y first second = first
chosen most false x y first second = second

dropped : (n : ℕ) (xs : List ℕ) → length (drop n xs) ≤ length xs
dropped n xs = let e = length-drop n xs in omega (arith, e)

sized : (tag size : ℕ) (bytes : List ℕ) → LeavesAtMost (length bytes) (sized_element tag size bytes)
sized tag size bytes =
    chosen (length bytes) (nat_le size (length bytes)) (Some (record { tag = tag; content = take size bytes; rest = drop size bytes })) None (dropped size bytes) tt

long : (tag count : ℕ) (bytes : List ℕ) → LeavesAtMost (length bytes) (long_element tag count bytes)
long tag count bytes =
    chosen (length bytes) (nat_le 1 count && (nat_le count 4 && nat_le count (length bytes)))
    (sized_element tag (big_number count (take count bytes)) (drop count bytes)) None
    (fewer (length (drop count bytes)) (length bytes) (sized_element tag (big_number count (take count bytes)) (drop count bytes)) (dropped count bytes) (sized tag (big_number count (take count bytes)) (drop count bytes))) tt

first : (bytes : List ℕ) → LeavesAtMost (length bytes - 1) (element_of bytes)
first [] = tt
first (tag ∷ []) = tt
first (tag ∷ size ∷ bytes) =
    let few : length bytes ≤ length (tag ∷ size ∷ bytes) - 1 = omega arith in
    fewer (length bytes) (length (tag ∷ size ∷ bytes) - 1) (element_of (tag ∷ size ∷ bytes)) few
    (chosen (length bytes) (tag % 32 == 31) None (cond (nat_lt size 128) (sized_element tag size bytes) (long_element tag (size - 128) bytes)) tt
    (chosen (length bytes) (nat_lt size 128) (sized_element tag size bytes) (long_element tag (size - 128) bytes) (sized tag size bytes) (long tag (size - 128) bytes)))

tagged : (tag most : ℕ) (o : Option Element) → LeavesAtMost most o → length (unwrap_or (option_and_then (λ (e : Element). cond (e.tag == tag) (Some e.rest) None) o) []) ≤ most
tagged tag most None few = omega arith
tagged tag most (Some e) few = elim (cases_Bool (e.tag == tag)) [
  | inl is ↦ rw is few
  | inr other ↦ rw other (omega arith)
]

-- what is behind an element of a tag
pub shorter : (tag : ℕ) (bytes : List ℕ) → length (unwrap_or (behind tag bytes) []) ≤ length bytes - 1
shorter tag bytes = tagged tag (length bytes - 1) (element_of bytes) (first bytes)

none_in_none : (most : ℕ) → signers_from most [] ≡ []
none_in_none zero = refl
none_in_none (suc most) = refl

no_bytes : (m : ℕ) (bytes : List ℕ) → length bytes ≤ 0 → signers_from m bytes ≡ []
no_bytes m [] none = none_in_none m
no_bytes m (x ∷ xs) none = absurd (omega (arith, none))

enough : (m n : ℕ) (bytes : List ℕ) → length bytes ≤ m → length bytes ≤ n → signers_from m bytes ≡ signers_from n bytes
enough zero n bytes first second = sym (no_bytes n bytes first)
enough (suc m) zero bytes first second = no_bytes (suc m) bytes second
enough (suc m) (suc n) bytes first second =
    let less = shorter SEQUENCE bytes in
    ap (and_then_rest (signer_of bytes)) (enough m n (behind_first bytes) (omega (arith, less, first)) (omega (arith, less, second)))

-- the first certificate, and those behind it
pub signers_step : (bytes : List ℕ) → signers_in bytes ≡ and_then_rest (signer_of bytes) (signers_in (behind_first bytes))
signers_step [] = refl
signers_step (x ∷ xs) =
    let less = shorter SEQUENCE (x ∷ xs) in
    ap (and_then_rest (signer_of (x ∷ xs))) (enough (length xs) (length (behind_first (x ∷ xs))) (behind_first (x ∷ xs)) (omega (arith, less)) (omega arith))

pub signers_more : (bytes : List ℕ) (s : Signer) → Some s ≡ signer_of bytes → signers_in bytes ≡ s ∷ signers_in (behind_first bytes)
signers_more bytes s is = signers_step bytes ∙ ap (λ (o : Option Signer). and_then_rest o (signers_in (behind_first bytes))) (sym is)

pub signers_end : (bytes : List ℕ) → None ≡ signer_of bytes → signers_in bytes ≡ []
signers_end bytes is = signers_step bytes ∙ ap (λ (o : Option Signer). and_then_rest o (signers_in (behind_first bytes))) (sym is)
