use Rattle.std.proofs.Common.{take, ◌++◌, codes}
use Rattle.std.specs.Prelude.{flat_map}
use Rattle.pe_text.specs.TextWriter.{Adds}
use Rattle.pe_json.specs.TableRows.{fixup_row}
use Rattle.pe_json.proofs.tables.write_next_fixups.Given as goal

abbrev pub invariant-loop-fixup : goal.invariant-loop-fixup
invariant-loop-fixup g l = record {
  adds : Adds g.W.Sink.taken g.W.Sink.failures l.initial.text l.text (flat_map (λ i. codes "," ++ fixup_row i) (take l.fixup-index l.fixups));
}
