use Rattle.std.proofs.Common.{rules}
use Rattle.pe_tables.proofs.found_fixups.FoundFixups.is_behind.Goals as goal

pub returns : goal.returns
returns g c = search rules
