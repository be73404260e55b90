-- A unit that is not 0 is one more before the first that is.
use Rattle.std.proofs.Common.{◌≡◌, ◌∙◌, ◌+◌, ◌*◌, ◌-◌, ℕ, suc, List, ap, arith}
use Rattle.pe_view.specs.View.{bytes_of}
use Rattle.pe_version.specs.Parts.{units_before_zero}
use Rattle.pe_version.proofs.Zeros.{zero_after}
use Rattle.pe_version.proofs.block.units_before_zero.Goals as goal

pub loop-index-preserved : goal.loop-index-preserved
loop-index-preserved c =
    let bytes : List ℕ = bytes_of c.args.view in
    let k : ℕ = c.loop-index.index in
    let at : ℕ = c.args.at + 2 * k in
    let left : ℕ = c.args.count - k in
    let some = c.loop-index-test.true in
    let unit = c.word.ensures in
    let more : units_before_zero bytes at left ≡ suc (units_before_zero bytes (at + 2) (left - 1)) =
    zero_after bytes at left (omega (arith, some)) (λ zero. c.if-word-eq0.false (unit ∙ zero)) in
    let next : units_before_zero bytes (at + 2) (left - 1) ≡ units_before_zero bytes (c.args.at + 2 * (k + 1)) (c.args.count - (k + 1)) =
    ap (λ (a : ℕ). units_before_zero bytes a (left - 1)) (omega arith) ∙ ap (λ (n : ℕ). units_before_zero bytes (c.args.at + 2 * (k + 1)) n) (omega arith) in
    let before = c.loop-index.invariant in
    omega (arith, before, more, next)
