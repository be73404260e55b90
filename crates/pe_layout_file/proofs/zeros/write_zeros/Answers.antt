-- Each call adds as many zero bytes as are left, or as there are at hand, or a beginning of these.
use Rattle.std.proofs.Common.{◌≡◌, ◌∙◌, ℕ, ◌+◌, ◌-◌, ◌≤◌, List, ◌++◌, take, refl, ap, append_assoc, arith}
use Rattle.std.specs.Prelude.{replicate}
use Rattle.std.proofs.lemmas.List.{replicate-append-replicate, take-replicate}
use Rattle.std.proofs.lemmas.Result.{err_from_is_err_and}
use Rattle.pe_layout_file.proofs.Writing.{in_first, in_second}
use Rattle.pe_layout_file.proofs.zeros.write_zeros.Goals as goal

module _ (room before mid now : List ℕ) (all done len : ℕ) (few : len ≤ all) (zeros : room ≡ replicate all 0) (so_far : mid ≡ before ++ replicate done 0) where
  piece : take len room ≡ replicate len 0
  piece = ap (take len) zeros ∙ take-replicate len all 0 few

  more : now ≡ mid ++ take len room → now ≡ before ++ replicate (done + len) 0
  more is =
      is ∙ ap (λ (xs : List ℕ). mid ++ xs) piece ∙ ap (λ (xs : List ℕ). xs ++ replicate len 0) so_far ∙ append_assoc before (replicate done 0) (replicate len 0)
      ∙ ap (λ (xs : List ℕ). before ++ xs) (replicate-append-replicate done len 0)

  beginning : (k count : ℕ) → done + len ≤ count → now ≡ mid ++ take k (take len room) → (n : ℕ) × (now ≡ before ++ take n (replicate count 0))
  beginning k count fits is =
      let rest : ℕ = count - (done + len) in
      let size : done + len + rest ≡ count = omega arith in
      let so = in_second before mid now (replicate done 0) (replicate len 0) k so_far (is ∙ ap (λ (xs : List ℕ). mid ++ take k xs) piece) in
      let all_of = in_first before now (replicate done 0 ++ replicate len 0) (replicate rest 0) so.0 so.1 in (
        all_of.0,
        all_of.1 ∙ ap (λ (xs : List ℕ). before ++ take all_of.0 xs)
            (ap (λ (xs : List ℕ). xs ++ replicate rest 0) (replicate-append-replicate done len 0) ∙ replicate-append-replicate (done + len) rest 0 ∙ ap (λ (n : ℕ). replicate n 0) size),
      )

pub returns-in_err-write_all : goal.returns-in_err-write_all
returns-in_err-write_all g c =
    let p = err_from_is_err_and c.from_residual.result c.from_residual.ensures.1 in
    let failed = c.in_err-write_all.ensures in
    let room : List ℕ = replicate 4096 0 in
    rw p.1 (beginning room _ _ _ 4096 c.loop-done.done c.min-len.result (omega arith) refl c.loop-done.invariant.taken failed.0.0 c.args.count (omega arith) failed.0.1, failed.1 ∙ ap (λ (n : ℕ). n + 1) c.loop-done.invariant.count)

pub loop-done-preserved : goal.loop-done-preserved
loop-done-preserved g c =
    let room : List ℕ = replicate 4096 0 in
    record {
      within = omega arith;
      taken = more room _ _ _ 4096 c.loop-done.done c.min-len.result (omega arith) refl c.loop-done.invariant.taken c.in_ok-write_all.ensures.0;
      count = c.in_ok-write_all.ensures.1 ∙ c.loop-done.invariant.count;
    }
