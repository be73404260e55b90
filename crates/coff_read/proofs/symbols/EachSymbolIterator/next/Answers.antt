-- The symbol of the current record, and the next record.
use Rattle.std.proofs.Common.{◌∙◌, ℕ, ◌+◌, ◌-◌, ◌/◌, List, ◌∷◌, length, ap, sym, arith}
use Rattle.pe_view.specs.View.{bytes_of}
use Rattle.coff_read.specs.Forms.{Plain}
use Rattle.coff_read.specs.Reading.{symbol_at, symbols_from}
use Rattle.coff_read.specs.Records as format
use Rattle.coff_read.specs.SymbolsLeft.{indexed}
use Rattle.coff_read.proofs.PlainForm.{same_step}
use Rattle.coff_read.proofs.SymbolSteps.{at_record, record_inside, plain_step}
use Rattle.coff_read.proofs.symbols.EachSymbolIterator.next.Goals as goal

pub symbol_at-symbol-requires-clause-inside : goal.symbol_at-symbol-requires-clause-inside
symbol_at-symbol-requires-clause-inside g c =
    let s = c.args.self.now in
    let under = c.if-k-self.false in
    record_inside Plain (bytes_of s.view) s.tables s.stand s.next (omega (arith, under)) s.sound

pub invariant_of-self : goal.invariant_of-self
invariant_of-self g c =
    let s = c.args.self.now in
    let under = c.if-k-self.false in
    let step = plain_step (bytes_of s.view) s.tables s.stand s.next (omega (arith, under)) s.sound _ (s.next + (1 + length c.symbol_at-symbol.result.aux.now / 18)) c.symbol_at-symbol.ensures.aux (omega arith) in
    record { stand = s.stand; within = step.within; sound = step.sound; known = c.name_kept-name.ensures.known }

pub returns-clause-steps : goal.returns-clause-steps
returns-clause-steps g c =
    let s = c.args.self.now in
    let file = bytes_of s.view in
    let under = c.if-k-self.false in
    let next : ℕ = s.next + (1 + length c.symbol_at-symbol.result.aux.now / 18) in
    let rest : List (ℕ × format.Symbol) = indexed file (symbols_from file next (s.tables.records - next) 0) in
    let step = plain_step file s.tables s.stand s.next (omega (arith, under)) s.sound _ next c.symbol_at-symbol.ensures.aux (omega arith) in
    let is = c.symbol_at-symbol.ensures.symbol ∙ ap (symbol_at file) (at_record Plain file s.tables s.stand s.next (omega (arith, under)) s.sound) in
    ap (indexed file) (same_step file _ _ _ _ step.left) ∙ ap (λ (symbol : format.Symbol). (s.next, symbol) ∷ rest) (sym is)

pub returns-clause-goes : goal.returns-clause-goes
returns-clause-goes g c =
    let one = ap (λ (left : List (ℕ × format.Symbol)). length left) (returns-clause-steps g c) in
    record { on = λ finite. (tt, tt, omega (arith, one)); keeps = tt; rests = λ finite. tt }
