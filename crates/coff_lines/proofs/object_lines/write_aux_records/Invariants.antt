use Rattle.std.proofs.Common.{ℕ, ◌+◌, ◌*◌}
use Rattle.std.specs.Prelude.{flat_map}
use Rattle.std.specs.List.{range_with_len}
use Rattle.pe_view.specs.Number.{part}
use Rattle.coff_read.specs.BigView.{big_symbol_view}
use Rattle.coff_read.specs.EitherObject.{form_of}
use Rattle.coff_read.specs.FormAuxiliary.{aux_of}
use Rattle.coff_read.specs.Forms.{symbol_len}
use Rattle.coff_lines.specs.ObjectLines.{aux_line}
use Rattle.pe_text.specs.TextWriter.{Adds}
use Rattle.coff_lines.proofs.object_lines.write_aux_records.Given as goal

abbrev pub invariant-loop-k : goal.invariant-loop-k
invariant-loop-k g l =
    let big = form_of l.object in
    record {
      adds : Adds g.W.Sink.taken g.W.Sink.failures l.initial.text l.text
          (flat_map (λ (k : ℕ). aux_line (l.index + k) (aux_of big (big_symbol_view l.symbol) (part l.symbol.aux.now (symbol_len big * k) (symbol_len big)))) (range_with_len 0 l.k));
    }
