use Rattle.std.proofs.Common.{◌+◌, sym, subst, arith}
use Rattle.pe_space.specs.FileSpaceView.{SlotCounts}
use Rattle.pe_space.proofs.FileSpaces.{AreZeros, zeros_none, zeros_more, zeros_all}
use Rattle.pe_space.proofs.file_space.no_slots.Goals as goal

pub loop-init : goal.loop-init
loop-init g c = subst (AreZeros 0) (sym c.in_ok-counts.ensures.items) zeros_none

pub loop-preserved : goal.loop-preserved
loop-preserved g c = subst (AreZeros (c.loop.counter + 1)) (sym c.in_ok-push.ensures.items) (zeros_more c.loop.counter c.loop.counts.items c.loop.invariant)

pub returns-clause-counts : goal.returns-clause-counts
returns-clause-counts g c = subst (λ n. SlotCounts n _ c.loop.counts.items) (omega (arith, c.loop-test.false, c.loop.auto.counter-end)) (zeros_all c.loop.counter c.loop.counts.items c.loop.invariant)
