-- Fields that ascend share no byte.
use Rattle.pe_tables.proofs.Settled.{rising-apart}
use Rattle.pe_tables.proofs.found_fixups.FoundFixups.are_apart.Goals as goal

pub returns-then-self : goal.returns-then-self
returns-then-self g c = λ yes none. rising-apart c.args.self.now.fixups.items ((c.requires none).rising c.if-self.true)
