use Rattle.std.specs.Prelude.{flat_map}
use Rattle.std.specs.List.{range_with_len}
use Rattle.pe_space.specs.Content.{byte_at}
use Rattle.pe_map_lines.specs.MapReport.{window_line}
use Rattle.pe_text.specs.TextWriter.{Adds}
use Rattle.pe_map_lines.proofs.map_lines.write_window.Given as goal

abbrev pub invariant-loop-index : goal.invariant-loop-index
invariant-loop-index g l = record {
  adds : Adds g.W.Sink.taken g.W.Sink.failures l.initial.text l.text
      (flat_map (window_line (byte_at (g.S.Space.content l.space)) l.address l.count) (range_with_len 0 l.index));
}
