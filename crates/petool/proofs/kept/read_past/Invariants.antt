use Rattle.std.proofs.Common.{◌≡◌}
use Rattle.petool.proofs.kept.read_past.Given as goal

abbrev pub invariant-loop : goal.invariant-loop
invariant-loop g l = record {
  count : g.R.Source.failures l.reader ≡ g.R.Source.failures l.initial.reader;
}
