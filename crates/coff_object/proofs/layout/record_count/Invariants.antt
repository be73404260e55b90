use denote.Param.{number}
use Rattle.std.proofs.Common.{◌≡◌, ◌+◌, ◌<◌, ◌^◌, drop}
use Rattle.std.specs.Prelude.{map}
use Rattle.coff_read.specs.FormRecords.{records_of}
use Rattle.coff_object.specs.StringTableView.{counted}
use Rattle.coff_object.specs.contracts.layout.record_count.{BIG-type}
use Rattle.coff_object.proofs.layout.record_count.Given as goal

abbrev pub invariant-loop-symbol : goal.invariant-loop-symbol
invariant-loop-symbol g l =
    let big = BIG-type g.row.S (number g.row.BIG) in
    record {
      small : l.count < 2 ^ 64;
      sum : counted (l.count + records_of big (map g.S.WideSymbol.view (drop l.symbol-index l.symbols))) ≡ counted (records_of big (map g.S.WideSymbol.view l.symbols));
    }
