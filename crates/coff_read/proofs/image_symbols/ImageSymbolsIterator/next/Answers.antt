-- The symbol of the current record, and the next record.
use Rattle.std.proofs.Common.{◌≡◌, ◌∙◌, ℕ, ◌+◌, ◌-◌, ◌*◌, ◌/◌, List, ◌∷◌, length, ap, sym, refl, arith}
use Rattle.std.specs.Prelude.{min, option_map}
use Rattle.pe_view.specs.View.{bytes_of}
use Rattle.coff_read.specs.Field.{field}
use Rattle.coff_read.specs.ImageNames.{table_of}
use Rattle.coff_read.specs.ImageSymbols.{image_symbols_from}
use Rattle.coff_read.specs.Records.{Symbol}
use Rattle.coff_read.proofs.ImageSymbolSteps.{step}
use Rattle.coff_read.proofs.image_symbols.ImageSymbolsIterator.next.Goals as goal

pub symbol_at-symbol-requires-clause-inside : goal.symbol_at-symbol-requires-clause-inside
symbol_at-symbol-requires-clause-inside g c = let held = c.args.self.now.held in let under = c.if-k-self.false in omega (arith, held, under)

pub invariant_of-self : goal.invariant_of-self
invariant_of-self g c =
    let s = c.args.self.now in
    let under = c.if-k-self.false in
    let aux = c.symbol_at-symbol.ensures.aux in
    record { held = s.held; near = s.near; few = s.few; within = omega (arith, under, aux); known = c.symbol_name-name.ensures.known }

pub returns-clause-steps : goal.returns-clause-steps
returns-clause-steps g c =
    let s = c.args.self.now in
    let file = bytes_of s.view in
    let strings = option_map table_of s.strings in
    let under = c.if-k-self.false in
    let aux = c.symbol_at-symbol.ensures.aux in
    let next : ℕ = s.next + 1 + length c.symbol_at-symbol.result.aux.now / 18 in
    let rest : List (ℕ × Symbol) = image_symbols_from file strings s.start next (s.records - next) 0 in
    step file strings s.start s.next (s.records - s.next - 1) s.records next (omega (arith, under)) (omega (arith, aux))
    ∙ ap (λ (symbol : Symbol). (s.next, symbol) ∷ rest) (sym (c.symbol_at-symbol.ensures.symbol strings c.symbol_name-name.ensures.name))

pub returns-clause-goes : goal.returns-clause-goes
returns-clause-goes g c =
    let one = ap (λ (left : List (ℕ × Symbol)). length left) (returns-clause-steps g c) in
    record { on = λ finite. (tt, tt, omega (arith, one)); keeps = tt; rests = λ finite. tt }
