use Rattle.std.specs.Prelude.{flat_map}
use Rattle.std.specs.List.{range_with_len}
use Rattle.pe_records.specs.Structure.{address_width}
use Rattle.pe_text.specs.TextWriter.{Adds}
use Rattle.pe_view.specs.View.{bytes_of}
use Rattle.pe_json.specs.Listed.{more}
use Rattle.pe_json.specs.StructureRows.{member_at}
use Rattle.pe_json.proofs.structure.write_fields.Given as goal

abbrev pub invariant-loop-index : goal.invariant-loop-index
invariant-loop-index g l = record {
  adds : Adds g.W.Sink.taken g.W.Sink.failures l.initial.text l.text
      (more (flat_map (member_at l.kind (address_width l.structure.is_plus) (bytes_of l.structure.bytes)) (range_with_len 0 l.index)));
}
