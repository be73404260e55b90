-- The bytes of a range that begins no later.
use Rattle.std.proofs.Common.{rules}
use Rattle.pe_view.proofs.text_ends.TextEnds.past.Goals as goal

pub returns-in-Some-clause-none : goal.returns-in-Some-clause-none
returns-in-Some-clause-none g c = search rules
