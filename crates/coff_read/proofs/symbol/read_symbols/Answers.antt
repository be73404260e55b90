-- Symbol by symbol.
use Rattle.std.proofs.Common.{◌∙◌, ℕ, ◌+◌, ◌/◌, length, ap, arith}
use Rattle.pe_view.specs.View.{bytes_of}
use Rattle.coff_read.specs.ObjectView.{symbol_view}
use Rattle.coff_read.specs.Forms.{Plain}
use Rattle.coff_read.specs.Reading.{symbol_at, record_start}
use Rattle.coff_read.proofs.PlainForm.{same_step}
use Rattle.coff_read.proofs.SymbolSteps.{at_record, record_inside, plain_step}
use Rattle.coff_read.proofs.Walk.{read_more}
use Rattle.coff_read.proofs.symbol.read_symbols.Goals as goal

pub symbol_at-symbol-requires-clause-inside : goal.symbol_at-symbol-requires-clause-inside
symbol_at-symbol-requires-clause-inside g c = record_inside Plain (bytes_of c.args.view) c.args.tables c.requires.tables c.loop-k.k c.loop-k-test.true c.loop-k.invariant.sound

pub loop-k-preserved : goal.loop-k-preserved
loop-k-preserved g c =
    let file = bytes_of c.args.view in
    let k : ℕ = c.loop-k.k in
    let symbol = c.symbol_at-symbol.ensures in
    let step = plain_step file c.args.tables c.requires.tables k c.loop-k-test.true c.loop-k.invariant.sound _ (k + (1 + length c.symbol_at-symbol.result.aux.now / 18)) symbol.aux (omega arith) in
    record {
      within = step.within;
      known = c.name_kept-name.ensures.known;
      sound = step.sound;
      read = read_more symbol_view (λ k. symbol_at file (record_start file k)) k _ _ _ _ _ _ (same_step file _ _ _ _ step.left) c.in_ok-push.ensures.items
          (symbol.symbol ∙ ap (symbol_at file) (at_record Plain file c.args.tables c.requires.tables k c.loop-k-test.true c.loop-k.invariant.sound)) c.loop-k.invariant.read;
    }
