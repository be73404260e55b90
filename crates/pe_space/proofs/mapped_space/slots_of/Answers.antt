use Rattle.std.proofs.Common.{arith}
use Rattle.pe_space.proofs.mapped_space.slots_of.Goals as goal

pub returns-clause-held : goal.returns-clause-held
returns-clause-held c = λ b held.
    let own = c.between.ensures.held b held in
    (own.0, omega (arith, own.1, own.2, c.from-exporter.ensures))
