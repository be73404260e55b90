-- The last range of a run starts last.
use Rattle.std.proofs.lemmas.Bool.{ltb-true, lt-ltb}
use Rattle.pe_ranges.proofs.Runs.{starts_below, last_starts_below}
use Rattle.pe_ranges.proofs.ranges.all_below.Goals as goal

pub returns-in-Some : goal.returns-in-Some
returns-in-Some c =
    let last = c.in-Some.ensures.item in (
      λ below. starts_below c.args.run.now c.in-Some.last.now c.args.rva c.requires last.3.0 last.3.1 (ltb-true _ _ below),
      λ all. lt-ltb _ _ (last_starts_below c.args.run.now c.in-Some.last.now c.args.rva last.3.0 last.3.1 all),
    )
