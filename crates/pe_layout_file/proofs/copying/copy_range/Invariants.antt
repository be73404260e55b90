use Rattle.std.proofs.Common.{◌≡◌, ◌≤◌, ◌-◌, Ok, true, length}
use Rattle.pe_view.specs.Number.{part}
use Rattle.pe_layout_file.specs.ByParts.{Moves, WritesOf}
use Rattle.pe_layout_file.proofs.Moving.{Whole}
use Rattle.pe_layout_file.proofs.copying.copy_range.Given as goal

-- the first bytes of the range were copied
abbrev pub invariant-loop-done : goal.invariant-loop-done
invariant-loop-done g l = record {
  within : l.done ≤ l.fn.count;
  copies : Moves (g.R.PartSource.parts l.initial.reader) (g.R.PartSource.parts l.reader) (g.W.Sink.taken l.initial.writer) (g.W.Sink.taken l.writer)
      (WritesOf (Whole l.fn.offset l.fn.count) (λ file. part file l.fn.offset l.done) (Ok true));
  reads : g.R.PartSource.failures l.reader ≡ g.R.PartSource.failures l.initial.reader;
  writes : g.W.Sink.failures l.writer ≡ g.W.Sink.failures l.initial.writer;
  room : length l.buffer ≡ length l.initial.buffer;
}

abbrev pub decreases-loop-done : goal.decreases-loop-done
decreases-loop-done g l = l.fn.count - l.done
