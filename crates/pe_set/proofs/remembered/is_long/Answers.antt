-- The name that is long.
use Rattle.std.proofs.Common.{ap}
use Rattle.pe_tables.specs.Key.{key_view}
use Rattle.pe_set.proofs.remembered.is_long.Goals as goal

pub returns-in-Name : goal.returns-in-Name
returns-in-Name c = λ long. (c.in-Name.name.now, ap key_view c.in-Name.is)
