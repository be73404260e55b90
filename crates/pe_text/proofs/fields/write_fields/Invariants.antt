use Rattle.std.proofs.Common.{take, map}
use Rattle.std.specs.Prelude.{flat_map}
use Rattle.pe_text.specs.Field.{field_of, field_line}
use Rattle.pe_text.specs.TextWriter.{Adds}
use Rattle.pe_text.proofs.fields.write_fields.Given as goal

abbrev pub invariant-loop-field : goal.invariant-loop-field
invariant-loop-field g l = record {
  adds : Adds g.W.Sink.taken g.W.Sink.failures l.initial.text l.text (flat_map field_line (map field_of (take l.field-index l.fields)));
}
