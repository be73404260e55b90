-- One symbol after the other.
use Rattle.std.proofs.Common.{◌≡◌, ◌≢◌, ◌∙◌, ℕ, suc, ◌+◌, ◌-◌, ◌*◌, List, ◌∷◌, [], ◌++◌, refl, subst, arith}
use Rattle.std.proofs.lemmas.Result.{err_from_is_err_and}
use Rattle.std.specs.Prelude.{min}
use Rattle.std.specs.List.{flat_map}
use Rattle.coff_read.specs.Field.{field}
use Rattle.coff_read.specs.ImageNames.{image_strings}
use Rattle.coff_read.specs.ImageSymbols.{image_symbol_at, image_symbols, image_symbols_from, records_held}
use Rattle.coff_read.specs.Records.{Symbol}
use Rattle.coff_read.proofs.ImageSymbolSteps.{step}
use Rattle.pe_view.specs.AllStanding.{adds_wants}
use Rattle.pe_view.specs.Standing.{standing}
use Rattle.pe_view.specs.View.{bytes_of}
use Rattle.pe_symbols.specs.SymbolTests.{symbol_tests}
use Rattle.pe_symbols.proofs.Found.{found_more, some_here, some_later}
use Rattle.pe_symbols.proofs.findings.find_symbols.Goals as goal

pub returns-in_err-find_symbol : goal.returns-in_err-find_symbol
returns-in_err-find_symbol g c =
    let file = bytes_of c.args.file in
    let h = c.args.headers.now in
    let strings = image_strings file h in
    let start : ℕ = h.pointer_to_symbol_table in
    let k : ℕ = c.loop-index.index in
    let held : ℕ = c.records_held-held.result in
    let under = c.loop-index-test.true in
    let left : ℕ = held - k - 1 in
    let next : ℕ = k + 1 + min (field file (start + 18 * k) 17 1) left in
    let tests = symbol_tests c.args.image file h in
    let steps = step file strings start k left held next (omega (arith, under)) refl in
    let symbol : Symbol = image_symbol_at file strings (start + 18 * k) left in
    let some = some_here tests (k, symbol) _ _ steps (c.in_err-find_symbol.ensures symbol refl) in
    let p = err_from_is_err_and c.from_residual.result c.from_residual.ensures.1 in
    let value = c.records_held-held.ensures.value in
    let all : held - 0 ≡ records_held file h = omega (arith, value) in
    let any = subst (λ (n : ℕ). standing (flat_map tests (image_symbols_from file strings start 0 n 0)) ≢ []) all (c.loop-index.invariant.1 some) in
    adds_wants (flat_map tests (image_symbols file h)) c.args.findings.now.items c.find_symbol.new.findings.items c.from_residual.result p.0 p.1 any

pub loop-index-preserved : goal.loop-index-preserved
loop-index-preserved g c =
    let file = bytes_of c.args.file in
    let h = c.args.headers.now in
    let strings = image_strings file h in
    let start : ℕ = h.pointer_to_symbol_table in
    let k : ℕ = c.loop-index.index in
    let held : ℕ = c.records_held-held.result in
    let under = c.loop-index-test.true in
    let left : ℕ = held - k - 1 in
    let counted = rw c.from.ensures at c.aux_counted_at-counted.ensures in
    let fewer = c.min.ensures in
    let next : ℕ = k + (1 + c.min.result) in
    let tests = symbol_tests c.args.image file h in
    let steps = step file strings start k left held next (omega (arith, under)) (omega (arith, counted, fewer)) in
    let symbol : Symbol = image_symbol_at file strings (start + 18 * k) left in
    let inv = c.loop-index.invariant in (
      found_more tests (k, symbol) _ _ steps c.loop-index.findings.items c.find_symbol.new.findings.items _ (c.in_ok-find_symbol.ensures symbol refl) inv.0,
      (λ some. inv.1 (some_later tests (k, symbol) _ _ steps some)),
      omega (arith, under, fewer),
    )
