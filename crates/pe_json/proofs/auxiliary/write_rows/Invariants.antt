use Rattle.std.proofs.Common.{true, take, map}
use Rattle.std.specs.List.{range_with_len}
use Rattle.coff_read.specs.BigView.{big_symbol_view}
use Rattle.coff_read.specs.FormRecords.{aux_records}
use Rattle.pe_text.specs.TextWriter.{Adds}
use Rattle.pe_json.specs.Listed.{items_text}
use Rattle.pe_json.specs.ObjectLine.{aux_row_at}
use Rattle.pe_json.proofs.auxiliary.write_rows.Given as goal

abbrev pub invariant-loop-k : goal.invariant-loop-k
invariant-loop-k g l = record {
  adds : Adds g.W.Sink.taken g.W.Sink.failures l.initial.text l.text (items_text true (take l.k (map (aux_row_at l.is_big l.index (big_symbol_view l.symbol)) (range_with_len 0 (aux_records l.is_big (big_symbol_view l.symbol))))));
}
