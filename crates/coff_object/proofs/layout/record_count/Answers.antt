-- All items are counted.
use denote.Param.{number}
use Rattle.std.proofs.Common.{◌≡◌, ◌∙◌, ℕ, ◌+◌, ◌/◌, length, refl, ap, arith}
use Rattle.std.specs.Prelude.{map}
use Rattle.coff_read.specs.FormRecords.{aux_records, records_of}
use Rattle.coff_read.specs.Forms.{symbol_len}
use Rattle.coff_read.specs.Records.{Symbol}
use Rattle.coff_object.specs.StringTableView.{counted}
use Rattle.coff_object.specs.contracts.layout.record_count.{BIG-type}
use Rattle.coff_object.proofs.Sizes.{all_counted, next_counted}
use Rattle.coff_object.proofs.layout.record_count.Goals as goal

pub loop-symbol-preserved : goal.loop-symbol-preserved
loop-symbol-preserved g c =
    let big = BIG-type g.row.S (number g.row.BIG) in
    let one : ℕ = 1 + c.aux_records.result in
    let aux : c.aux_records.result ≡ aux_records big (g.S.WideSymbol.view c.symbol-item.result) = c.aux_records.ensures.value ∙ ap (λ (s : Symbol). length s.aux / symbol_len big) c.wide.ensures in
    let sum : c.saturating_add-count.result ≡ counted (c.loop-symbol.count + one) = c.saturating_add-count.ensures in
    record {
      small = omega (arith, sum);
      sum = next_counted g.S.WideSymbol.view (records_of big) (λ s. 1 + aux_records big s) c.args.symbols.now c.loop-symbol.symbol-index c.symbol-item.result one _ _ _ (λ y ys. refl)
          c.loop-symbol-test.true c.symbol-item.is (ap (λ (n : ℕ). 1 + n) aux) sum c.loop-symbol.invariant.sum;
    }

pub returns : goal.returns
returns g c =
    let big = BIG-type g.row.S (number g.row.BIG) in
    all_counted (λ xs. records_of big (map g.S.WideSymbol.view xs)) c.args.symbols.now c.loop-symbol.symbol-index _ _ c.loop-symbol-test.false c.loop-symbol.invariant.small refl c.loop-symbol.invariant.sum
