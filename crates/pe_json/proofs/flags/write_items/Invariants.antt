use Rattle.std.proofs.Common.{◌≡◌, true}
use Rattle.pe_head.specs.Names.{flag_names}
use Rattle.pe_json.specs.Listed.{is_nil, items_text}
use Rattle.pe_json.specs.Flags.{flag_items}
use Rattle.pe_text.specs.TextWriter.{Adds}
use Rattle.pe_json.proofs.flags.write_items.Given as goal

abbrev pub invariant-loop-place : goal.invariant-loop-place
invariant-loop-place g l = record {
  adds : Adds g.W.Sink.taken g.W.Sink.failures l.initial.text l.text (items_text true (flag_items (flag_names l.kind) l.flags l.place));
  first : l.first ≡ is_nil (flag_items (flag_names l.kind) l.flags l.place);
}
