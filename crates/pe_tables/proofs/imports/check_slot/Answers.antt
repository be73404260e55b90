use Rattle.std.proofs.Common.{arith, rules}
use Rattle.pe_tables.proofs.imports.check_slot.Goals as goal

pub meets-requires : goal.meets-requires
meets-requires g c = let small = c.contains.ensures.small c.if-not-contains.false in omega (arith, small)

pub returns-then-not-contains-clause-no_memory : goal.returns-then-not-contains-clause-no_memory
returns-then-not-contains-clause-no_memory c = search rules
