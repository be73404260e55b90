-- All items are counted.
use denote.Param.{number}
use Rattle.std.proofs.Common.{◌≡◌, ◌+◌, length, refl, ap, arith}
use Rattle.std.specs.Prelude.{map}
use Rattle.coff_read.specs.Forms.{symbol_len}
use Rattle.coff_read.specs.Records.{Symbol}
use Rattle.coff_object.specs.Sizes.{symbols_size}
use Rattle.coff_object.specs.StringTableView.{counted}
use Rattle.coff_object.specs.contracts.layout.symbols_size.{BIG-type}
use Rattle.coff_object.proofs.Sizes.{all_counted, next_counted}
use Rattle.coff_object.proofs.layout.symbols_size.Goals as goal

pub loop-symbol-preserved : goal.loop-symbol-preserved
loop-symbol-preserved g c =
    let big = BIG-type g.row.S (number g.row.BIG) in
    let s = g.S.WideSymbol.view c.symbol-item.result in
    let aux : length c.wide.result.aux.now ≡ length s.aux = ap (λ (y : Symbol). length y.aux) c.wide.ensures in
    let record_is = c.record_len.ensures in
    let first = c.saturating_add.ensures in
    let second = c.saturating_add-size.ensures in
    let sum : c.saturating_add-size.result ≡ counted (c.loop-symbol.size + (symbol_len big + length s.aux)) = omega (arith, aux, record_is, first, second) in
    record {
      small = omega (arith, sum);
      sum = next_counted g.S.WideSymbol.view (symbols_size big) (λ y. symbol_len big + length y.aux) c.args.symbols.now c.loop-symbol.symbol-index c.symbol-item.result (symbol_len big + length s.aux) _ _ _ (λ y ys. refl)
          c.loop-symbol-test.true c.symbol-item.is refl sum c.loop-symbol.invariant.sum;
    }

pub returns : goal.returns
returns g c =
    let big = BIG-type g.row.S (number g.row.BIG) in
    all_counted (λ xs. symbols_size big (map g.S.WideSymbol.view xs)) c.args.symbols.now c.loop-symbol.symbol-index _ _ c.loop-symbol-test.false c.loop-symbol.invariant.small refl c.loop-symbol.invariant.sum
