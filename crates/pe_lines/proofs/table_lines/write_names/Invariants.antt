use Rattle.std.proofs.Common.{take, map}
use Rattle.std.specs.Prelude.{flat_map}
use Rattle.pe_tables.specs.Key.{target_view}
use Rattle.pe_lines.specs.TableLines.{name_line}
use Rattle.pe_text.specs.TextWriter.{Adds}
use Rattle.pe_lines.proofs.table_lines.write_names.Given as goal

abbrev pub invariant-loop-name : goal.invariant-loop-name
invariant-loop-name g l = record {
  adds : Adds g.W.Sink.taken g.W.Sink.failures l.initial.text l.text (flat_map name_line (map (λ pair. (pair.0.now, target_view pair.1)) (take l.name-index l.names)));
}
