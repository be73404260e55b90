-- Symbol by symbol.
use Rattle.std.proofs.Common.{◌∙◌, ℕ, ◌+◌, ap, arith}
use Rattle.pe_view.specs.View.{bytes_of}
use Rattle.coff_read.specs.BigView.{big_symbol_view}
use Rattle.coff_read.specs.FormReading.{symbol_at, record_start, aux_of}
use Rattle.coff_read.specs.Forms.{Big}
use Rattle.coff_read.proofs.SymbolSteps.{record_inside, symbol_step}
use Rattle.coff_read.proofs.Walk.{read_more}
use Rattle.coff_read.proofs.big_symbol.read_big_symbols.Goals as goal

pub big_symbol_at-requires-clause-inside : goal.big_symbol_at-requires-clause-inside
big_symbol_at-requires-clause-inside g c =
    rw c.record_at-at.ensures.value (record_inside Big (bytes_of c.args.view) c.args.tables c.requires.tables c.loop-k.k c.loop-k-test.true c.loop-k.invariant.sound)

pub loop-k-preserved : goal.loop-k-preserved
loop-k-preserved g c =
    let file = bytes_of c.args.view in
    let k : ℕ = c.loop-k.k in
    let aux = c.from.ensures ∙ c.aux_in.ensures ∙ ap (aux_of Big file) c.record_at-at.ensures.value in
    let step = symbol_step Big file c.args.tables c.requires.tables k c.loop-k-test.true c.loop-k.invariant.sound (k + (1 + c.from.result)) (omega (arith, aux)) in
    record {
      within = step.within;
      known = c.name_kept-name.ensures.known;
      sound = step.sound;
      read = read_more big_symbol_view (λ k. symbol_at Big file (record_start Big file k)) k _ _ _ _ _ _ step.left c.in_ok-push.ensures.items
          (c.big_symbol_at.ensures ∙ ap (symbol_at Big file) c.record_at-at.ensures.start) c.loop-k.invariant.read;
    }
