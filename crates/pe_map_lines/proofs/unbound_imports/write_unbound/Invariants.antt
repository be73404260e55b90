use Rattle.std.proofs.Common.{take, map}
use Rattle.std.specs.Prelude.{flat_map}
use Rattle.pe_text.specs.TextWriter.{Adds}
use Rattle.pe_map_lines.specs.UnboundImports.{unbound_line, unbound_view}
use Rattle.pe_map_lines.proofs.unbound_imports.write_unbound.Given as goal

abbrev pub invariant-loop-import : goal.invariant-loop-import
invariant-loop-import g l = record {
  adds : Adds g.W.Sink.taken g.W.Sink.failures l.initial.text l.text (flat_map unbound_line (map unbound_view (take l.import-index l.unbound)));
}
