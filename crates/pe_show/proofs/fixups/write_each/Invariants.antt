use Rattle.std.proofs.Common.{take}
use Rattle.std.specs.Prelude.{flat_map}
use Rattle.pe_text.specs.TextWriter.{Adds}
use Rattle.pe_show.specs.Rows.{field_text}
use Rattle.pe_show.proofs.fixups.write_each.Given as goal

abbrev pub invariant-loop-fixup : goal.invariant-loop-fixup
invariant-loop-fixup g l = record {
  adds : Adds g.W.Sink.taken g.W.Sink.failures l.initial.text l.text (flat_map field_text (take l.fixup-index l.row));
}
