use Rattle.std.proofs.Common.{take}
use Rattle.std.specs.Prelude.{flat_map}
use Rattle.pe_lines.specs.TableLines.{fixup_line}
use Rattle.pe_text.specs.TextWriter.{Adds}
use Rattle.pe_lines.proofs.table_lines.write_fixups.Given as goal

abbrev pub invariant-loop-fixup : goal.invariant-loop-fixup
invariant-loop-fixup g l = record {
  adds : Adds g.W.Sink.taken g.W.Sink.failures l.initial.text l.text (flat_map fixup_line (take l.fixup-index l.fixups));
}
