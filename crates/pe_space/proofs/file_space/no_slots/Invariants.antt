use Rattle.pe_space.proofs.FileSpaces.{AreZeros}
use Rattle.pe_space.proofs.file_space.no_slots.Given as goal

abbrev pub invariant-loop : goal.invariant-loop
invariant-loop g l = AreZeros l.counter l.counts.items
