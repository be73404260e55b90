-- The first range of a run starts first.
use Rattle.std.proofs.lemmas.Bool.{leb-true}
use Rattle.pe_ranges.proofs.Runs.{starts_behind}
use Rattle.pe_ranges.proofs.ranges.none_below.Goals as goal

pub returns-in-Some : goal.returns-in-Some
returns-in-Some c = λ behind. starts_behind c.args.run.now c.in-Some.first.now c.args.rva c.requires c.in-Some.ensures.item.3.1 (leb-true _ _ behind)
