use Rattle.std.proofs.Common.{true, take, map}
use Rattle.pe_records.specs.CallbackView.{callback_table}
use Rattle.pe_records.specs.Callbacks.{addresses}
use Rattle.pe_text.specs.TextWriter.{Adds}
use Rattle.pe_json.specs.JsonText.{wide_string}
use Rattle.pe_json.specs.Listed.{items_text}
use Rattle.pe_json.proofs.tls.write_each_callback.Given as goal

abbrev pub invariant-loop-index : goal.invariant-loop-index
invariant-loop-index g l = record {
  adds : Adds g.W.Sink.taken g.W.Sink.failures l.initial.text l.text (items_text true (take l.index (map wide_string (addresses (callback_table l.callbacks)))));
}
