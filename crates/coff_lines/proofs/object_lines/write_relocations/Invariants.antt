use Rattle.std.proofs.Common.{ℕ, ◌+◌, ◌*◌}
use Rattle.std.specs.Prelude.{flat_map}
use Rattle.std.specs.List.{range_with_len}
use Rattle.pe_view.specs.View.{bytes_of}
use Rattle.coff_read.specs.Reading.{relocation_at}
use Rattle.coff_lines.specs.ObjectLines.{relocation_line}
use Rattle.pe_text.specs.TextWriter.{Adds}
use Rattle.coff_lines.proofs.object_lines.write_relocations.Given as goal

abbrev pub invariant-loop-index : goal.invariant-loop-index
invariant-loop-index g l = record {
  adds : Adds g.W.Sink.taken g.W.Sink.failures l.initial.text l.text
      (flat_map (λ (k : ℕ). relocation_line l.machine (relocation_at (bytes_of l.relocations.view) (l.relocations.start + 10 * k))) (range_with_len 0 l.index));
}
