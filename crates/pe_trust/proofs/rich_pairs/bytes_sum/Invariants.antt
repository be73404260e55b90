use Rattle.std.proofs.Common.{◌≡◌, ◌%◌, ◌^◌}
use Rattle.pe_trust.specs.Rich.{bytes_sum}
use Rattle.pe_trust.proofs.rich_pairs.bytes_sum.Given as goal

abbrev pub invariant-loop-offset : goal.invariant-loop-offset
invariant-loop-offset l = l.sum ≡ bytes_sum l.bytes l.offset % 2 ^ 32
