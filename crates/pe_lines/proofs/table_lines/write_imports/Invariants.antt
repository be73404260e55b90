use Rattle.std.proofs.Common.{take, map}
use Rattle.std.specs.Prelude.{flat_map}
use Rattle.pe_tables.specs.ImportView.{import_view}
use Rattle.pe_lines.specs.TableLines.{import_line}
use Rattle.pe_text.specs.TextWriter.{Adds}
use Rattle.pe_lines.proofs.table_lines.write_imports.Given as goal

abbrev pub invariant-loop-import : goal.invariant-loop-import
invariant-loop-import g l = record {
  adds : Adds g.W.Sink.taken g.W.Sink.failures l.initial.text l.text (flat_map import_line (map import_view (take l.import-index l.imports)));
}
