use Rattle.std.proofs.Common.{take, map}
use Rattle.std.specs.Prelude.{flat_map}
use Rattle.pe_tables.specs.Key.{target_view}
use Rattle.pe_lines.specs.TableLines.{ordinal_line}
use Rattle.pe_text.specs.TextWriter.{Adds}
use Rattle.pe_lines.proofs.table_lines.write_ordinals.Given as goal

abbrev pub invariant-loop-ordinal : goal.invariant-loop-ordinal
invariant-loop-ordinal g l = record {
  adds : Adds g.W.Sink.taken g.W.Sink.failures l.initial.text l.text (flat_map ordinal_line (map (λ pair. (pair.0, target_view pair.1)) (take l.ordinal-index l.ordinals)));
}
