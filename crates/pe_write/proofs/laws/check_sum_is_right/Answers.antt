use Rattle.std.proofs.Common.{◌≡◌, ◌∙◌, ◌+◌, ◌^◌, ◌<◌, ℕ, length, ap, sym, arith}
use Rattle.std.proofs.Math.Nat.{mod-lt}
use Rattle.pe_view.specs.Number.{byte_of, digit}
use Rattle.pe_view.specs.Digits.{num_of_own_digits}
use Rattle.pe_head.specs.Head.{head_of}
use Rattle.pe_tables.specs.Patch.{bytes}
use Rattle.pe_tables.specs.Patched.{length-patch, written_in}
use Rattle.pe_trust.specs.CheckSum.{check_sum_of, folded, word_sum}
use Rattle.pe_write.specs.Rebase.{check_sum_place}
use Rattle.pe_write.specs.Summed.{summed, with_check_sum}
use Rattle.pe_write.proofs.Rebasable.{check_sum_held}
use Rattle.pe_write.proofs.Sequence.{put_out}
use Rattle.pe_write.proofs.laws.check_sum_is_right.Goals as goal

pub returns : goal.returns
unfolding with_check_sum
returns c file none =
    let place : ℕ = check_sum_place (head_of file) in
    let sum : ℕ = check_sum_of file place in
    let held = check_sum_held file none in
    let len : length (summed file) ≡ length file = length-patch file place (bytes 4 sum) held in
    let same = c.own_field_does_not_count.ensures (summed file) file place len (λ o out. put_out file place 4 sum o held out) in
    let fits : sum < 256 ^ 4 = mod-lt (folded (word_sum file place) + length file) {m = 2 ^ 32} (omega arith) in
    let own = num_of_own_digits (byte_of (summed file)) place 4 sum fits (λ k lt. written_in file place 4 sum (place + k) held (omega arith) (omega (arith, lt)) ∙ ap (digit sum) (omega arith)) in
    rw none (own ∙ sym same)
