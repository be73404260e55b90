use Rattle.std.proofs.Common.{◌≡◌, ◌≤◌, ◌-◌, ◌++◌}
use Rattle.pe_space.specs.Content.{bytes_from}
use Rattle.pe_space_file.proofs.address_range.write_range.Given as goal

abbrev pub invariant-loop-done : goal.invariant-loop-done
invariant-loop-done g l = record {
  within : l.done ≤ l.count;
  taken : g.W.Sink.taken l.writer ≡ g.W.Sink.taken l.initial.writer ++ bytes_from (g.S.Space.content l.space) l.address l.done;
  failures : g.W.Sink.failures l.writer ≡ g.W.Sink.failures l.initial.writer;
}

abbrev pub decreases-loop-done : goal.decreases-loop-done
decreases-loop-done g l = l.count - l.done
