-- The symbol of the current record, and the next record.
use Rattle.std.proofs.Common.{◌∙◌, ℕ, ◌+◌, ◌-◌, ◌<◌, List, ◌∷◌, length, ap, sym, arith}
use Rattle.pe_view.specs.View.{bytes_of}
use Rattle.coff_read.specs.BigLeft.{indexed}
use Rattle.coff_read.specs.FormReading.{symbol_at, symbols_from, aux_of}
use Rattle.coff_read.specs.Forms.{Big}
use Rattle.coff_read.specs.Records as format
use Rattle.coff_read.proofs.SymbolSteps.{record_inside, symbol_step}
use Rattle.coff_read.proofs.big_symbols.BigSymbolsIterator.next.Goals as goal

pub big_symbol_at-symbol-requires-clause-inside : goal.big_symbol_at-symbol-requires-clause-inside
big_symbol_at-symbol-requires-clause-inside c =
    let s = c.args.self.now in
    let under = c.if-k-self.false in
    rw c.record_at-at.ensures.value (record_inside Big (bytes_of s.view) s.tables s.stand s.next (omega (arith, under)) s.sound)

pub invariant_of-self : goal.invariant_of-self
invariant_of-self c =
    let s = c.args.self.now in
    let under = c.if-k-self.false in
    let aux = c.from.ensures ∙ c.aux_in.ensures ∙ ap (aux_of Big (bytes_of s.view)) c.record_at-at.ensures.value in
    let step = symbol_step Big (bytes_of s.view) s.tables s.stand s.next (omega (arith, under)) s.sound (s.next + 1 + c.from.result) (omega (arith, aux)) in
    record { stand = s.stand; within = step.within; sound = step.sound }

pub returns-clause-steps : goal.returns-clause-steps
returns-clause-steps c =
    let s = c.args.self.now in
    let file = bytes_of s.view in
    let under = c.if-k-self.false in
    let aux = c.from.ensures ∙ c.aux_in.ensures ∙ ap (aux_of Big file) c.record_at-at.ensures.value in
    let next : ℕ = s.next + 1 + c.from.result in
    let rest : List (ℕ × format.Symbol) = indexed Big file (symbols_from Big file next (s.tables.records - next) 0) in
    let step = symbol_step Big file s.tables s.stand s.next (omega (arith, under)) s.sound next (omega (arith, aux)) in
    let is = c.big_symbol_at-symbol.ensures ∙ ap (symbol_at Big file) c.record_at-at.ensures.start in
    ap (indexed Big file) step.left ∙ ap (λ (symbol : format.Symbol). (s.next, symbol) ∷ rest) (sym is)

pub returns-clause-goes : goal.returns-clause-goes
returns-clause-goes c =
    let one = ap (λ (left : List (ℕ × format.Symbol)). length left) (returns-clause-steps c) in
    record { on = λ finite. (tt, tt, omega (arith, one)); keeps = tt; rests = λ finite. tt }
