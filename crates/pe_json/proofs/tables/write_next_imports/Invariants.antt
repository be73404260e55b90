use Rattle.std.proofs.Common.{take, ◌++◌, codes}
use Rattle.std.specs.Prelude.{flat_map}
use Rattle.pe_tables.specs.ImportView.{import_view}
use Rattle.pe_text.specs.TextWriter.{Adds}
use Rattle.pe_json.specs.TableRows.{import_row}
use Rattle.pe_json.proofs.tables.write_next_imports.Given as goal

abbrev pub invariant-loop-import : goal.invariant-loop-import
invariant-loop-import g l = record {
  adds : Adds g.W.Sink.taken g.W.Sink.failures l.initial.text l.text (flat_map (λ i. codes "," ++ import_row (import_view i)) (take l.import-index l.imports));
}
