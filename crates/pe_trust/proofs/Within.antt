-- Where the raw data of sections lie that follow one another.
use Rattle.std.proofs.Common.{◌≡◌, ℕ, ◌+◌, ◌≤◌, true, List, [], ◌∷◌, ◌++◌, length, take, drop, sym, inl, inr, arith}
use Rattle.std.specs.Prelude.{◌==◌, unwrap_or}
use Rattle.std.specs.List.{All, insert}
use Rattle.std.proofs.Math.Seq.{drop-append_seam, take-append_seam}
use Rattle.std.proofs.lemmas.Bool.{cases_Bool, and_parts, eqb-true}
use Rattle.std.proofs.lemmas.List.{take-append-drop}
use Rattle.std.proofs.lemmas.List.Elements.{All-append, All-cons, All-drop, All-head, All-nil, All-same, All-tail, All-take, All-weaker}
use Rattle.pe_head.specs.declared.section.SectionHeader.{SectionHeader}
use Rattle.pe_trust.specs.Covered.{LieBetween, RawDataLieBetween}
use Rattle.pe_trust.specs.SignedBytes.{ascending_with, bytes_hashed, first_from, is_gapless, placed, placed_if}
use Rattle.pe_trust.proofs.Flat.{hashed_more}

hashed_least : (start : ℕ) (ss : List SectionHeader) → start ≤ bytes_hashed start ss
hashed_least start ss = omega arith

from_later : (start next end other : ℕ) → start ≤ next → end ≡ other → (s : SectionHeader) → LieBetween next other s → LieBetween start end s
from_later start next end other le same s lie =
    let low = lie.low in
    let high = lie.high in
    record { low = omega (arith, le, low); high = omega (arith, same, high) }

gapless_within : (start : ℕ) (ss : List SectionHeader) → is_gapless start ss ≡ true → All (LieBetween start (bytes_hashed start ss)) ss
gapless_within start [] is = All-nil (LieBetween start (bytes_hashed start []))
gapless_within start (s ∷ ss) is =
    let parts = and_parts _ _ is in
    let here = eqb-true s.pointer_to_raw_data start parts.0 in
    let next : ℕ = start + s.size_of_raw_data in
    let more = hashed_more start s ss in
    let rest = gapless_within next ss parts.1 in
    let least = hashed_least next ss in
    All-cons (LieBetween start (bytes_hashed start (s ∷ ss))) s ss
    (record { low = omega (arith, here); high = omega (arith, here, more, least) })
    (All-weaker (LieBetween next (bytes_hashed next ss)) (LieBetween start (bytes_hashed start (s ∷ ss))) (from_later start next (bytes_hashed start (s ∷ ss)) (bytes_hashed next ss) (omega arith) more) ss rest)

module _ (P : SectionHeader → Type 0) where
  first_all : (xs ys : List SectionHeader) → All P (xs ++ ys) → All P xs
  first_all xs ys all = All-same P xs (take (length xs) (xs ++ ys)) (sym (take-append_seam xs ys)) (All-take P (length xs) (xs ++ ys) all)

  last_all : (xs ys : List SectionHeader) → All P (xs ++ ys) → All P ys
  last_all xs ys all = All-same P ys (drop (length xs) (xs ++ ys)) (sym (drop-append_seam xs ys)) (All-drop P (length xs) (xs ++ ys) all)

  -- what holds of each holds of the one that was put in, and of the others
  inserted_all : (k : ℕ) (s : SectionHeader) (ss : List SectionHeader) → All P (insert ss k s) → P s × All P ss
  inserted_all k s ss all =
      let rest = last_all (take k ss) (s ∷ drop k ss) all in (
        All-head P s (drop k ss) rest,
        All-same P ss (take k ss ++ drop k ss) (sym (take-append-drop k ss)) (All-append P (take k ss) (drop k ss) (first_all (take k ss) (s ∷ drop k ss) all) (All-tail P s (drop k ss) rest)),
      )

  placed_all : (s : SectionHeader) (ss : List SectionHeader) → All P (placed_if s ss) → ((s.size_of_raw_data ≡ 0 → ⊥) → P s) × All P ss
  placed_all s ss all = elim (cases_Bool (s.size_of_raw_data == 0)) [
    | inl none ↦ let size = eqb-true s.size_of_raw_data 0 none in (λ some. absurd (some size), rw none at all)
    | inr some ↦
        let placed_in : All P (placed s ss) = rw some at all in
        let both = inserted_all (unwrap_or (first_from ss s.pointer_to_raw_data) (length ss)) s ss placed_in in
        (λ _. both.0, both.1)
  ]

  ascending_all : (done ss : List SectionHeader) → All P (ascending_with done ss) → All P done × All (λ (s : SectionHeader). (s.size_of_raw_data ≡ 0 → ⊥) → P s) ss
  ascending_all done [] all = (all, All-nil (λ (s : SectionHeader). (s.size_of_raw_data ≡ 0 → ⊥) → P s))
  ascending_all done (s ∷ ss) all =
      let rest = ascending_all (placed_if s done) ss all in
      let both = placed_all s done rest.0 in
      (both.1, All-cons (λ (t : SectionHeader). (t.size_of_raw_data ≡ 0 → ⊥) → P t) s ss both.0 rest.1)

pub raw_data_within : (start end : ℕ) (ss : List SectionHeader) → is_gapless start (ascending_with [] ss) ≡ true → bytes_hashed start (ascending_with [] ss) ≤ end
    → All (RawDataLieBetween start end) ss
raw_data_within start end ss is le =
    let within = gapless_within start (ascending_with [] ss) is in
    let widened = All-weaker (LieBetween start (bytes_hashed start (ascending_with [] ss))) (LieBetween start end)
    (λ s lie. let low = lie.low in let high = lie.high in record { low = low; high = omega (arith, high, le) }) (ascending_with [] ss) within in
    (ascending_all (LieBetween start end) [] ss widened).1
