-- Each range ends before all later ones begin.
use Rattle.std.proofs.Common.{ℕ, ◌+◌, ◌≤◌, List, [], ◌∷◌, get_or, take, subst, arith}
use Rattle.std.specs.Prelude.{AllPairs}
use Rattle.std.proofs.lemmas.List.{take_all, take_more}
use Rattle.std.proofs.lemmas.List.Elements.{All-append, All-cons, All-nil}
use Rattle.pe_ranges.specs.Ranges.{range_end}
use Rattle.pe_ranges.proofs.Pairs.{AllPairs-snoc}
use Rattle.pe_tables.proofs.apart.is_rising.Goals as goal

pub loop-range-preserved : goal.loop-range-preserved
loop-range-preserved c =
    let ranges : List (ℕ × ℕ) = c.args.ranges.now in
    let k : ℕ = c.loop-range.range-index in
    let here : ℕ × ℕ = get_or ranges k (0, 0) in
    let before : List (ℕ × ℕ) = take k ranges in
    let start = c.from-in-loop-range.ensures in
    let len = c.from-in-loop-range-2.ensures in
    let le = c.if-from-end.false in
    let first = c.from.ensures in
    rw (take_more ranges k (0, 0) c.loop-range-test.true)
    (record {
      rising = AllPairs-snoc (λ (a b : ℕ × ℕ). range_end a ≤ b.0) before here c.loop-range.invariant.rising
          (λ j d lt. let ends = c.loop-range.invariant.ends j d lt in omega (arith, ends, le, first));
      ends = All-append (λ (a : ℕ × ℕ). range_end a ≤ c.from-in-loop-range.result + c.from-in-loop-range-2.result) before (here ∷ [])
          (λ j d lt. let ends = c.loop-range.invariant.ends j d lt in omega (arith, ends, le, first, start))
          (All-cons (λ (a : ℕ × ℕ). range_end a ≤ c.from-in-loop-range.result + c.from-in-loop-range-2.result) here [] (omega (arith, start, len)) (All-nil _));
    })

pub returns : goal.returns
returns c = λ _.
    let ranges : List (ℕ × ℕ) = c.args.ranges.now in
    subst (AllPairs (λ (a b : ℕ × ℕ). range_end a ≤ b.0)) (take_all c.loop-range.range-index ranges (omega arith)) c.loop-range.invariant.rising
