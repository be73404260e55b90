-- Tables of a file have few items, since they lie in it.
use Rattle.std.proofs.Common.{◌≡◌, ℕ, zero, suc, ◌+◌, ◌-◌, ◌^◌, ◌<◌, ◌≤◌, List, [], ◌∷◌, length, Option, Some, None, inl, inr, arith}
use Rattle.std.proofs.lemmas.Bool.{cases_Bool}
use Rattle.std.specs.Prelude.{slice_get, Bool}
use Rattle.std.specs.List.{filter}
use Rattle.pe_view.specs.View.{bytes_of}
use Rattle.pe_trust.specs.Certificates.{certificates_left, entries_from, is_whole, next_of}
use Rattle.pe_trust.specs.Signers.{Signer, and_then_rest, behind_first, signer_of, signers_from}
use Rattle.pe_trust.specs.declared.certificate.Certificates.{Certificates}

few_entries : (file : List ℕ) (end most at : ℕ) → length (entries_from file end most at) ≤ most
few_entries file end zero at = omega arith
few_entries file end (suc most) at = elim (cases_Bool (is_whole file end at)) [
  | inl whole ↦ let few = few_entries file end most (next_of file at) in rw whole (omega (arith, few))
  | inr no_more ↦ rw no_more (omega arith)
]

pub few_certificates : (c : Certificates) → length (certificates_left c) < 2 ^ 33
few_certificates c =
    let few = few_entries (bytes_of c.file) c.end (c.end - c.at) c.at in
    let small = c.small in
    omega (arith, few, small)

rest_few : (s : Option Signer) (rest : List Signer) (most : ℕ) → length rest ≤ most → length (and_then_rest s rest) ≤ suc most
rest_few None rest most few = omega arith
rest_few (Some s) rest most few = omega (arith, few)

pub few_signers : (most : ℕ) (bytes : List ℕ) → length (signers_from most bytes) ≤ most
few_signers zero bytes = omega arith
few_signers (suc most) bytes = rest_few (signer_of bytes) (signers_from most (behind_first bytes)) most (few_signers most (behind_first bytes))

pub few_filtered : {X : Type 0} (p : X → Bool) (xs : List X) → length (filter p xs) ≤ length xs
few_filtered p [] = omega arith
few_filtered p (x ∷ xs) = elim (cases_Bool (p x)) [
  | inl is ↦ let few = few_filtered p xs in rw is (omega (arith, few))
  | inr other ↦ let few = few_filtered p xs in rw other (omega (arith, few))
]

-- an item of a list comes before its end
pub got_within : {X : Type 0} (xs : List X) (i : ℕ) (x : X) → slice_get xs i ≡ Some x → i + 1 ≤ length xs
got_within [] i x is = absurd cc is
got_within (y ∷ xs) zero x is = omega arith
got_within (y ∷ xs) (suc i) x is = let within = got_within xs i x is in omega (arith, within)
