use denote.Param.{number}
use Rattle.std.proofs.Common.{◌≡◌, ◌+◌, ◌<◌, ◌^◌, drop}
use Rattle.std.specs.Prelude.{map}
use Rattle.coff_object.specs.Sizes.{symbols_size}
use Rattle.coff_object.specs.StringTableView.{counted}
use Rattle.coff_object.specs.contracts.layout.symbols_size.{BIG-type}
use Rattle.coff_object.proofs.layout.symbols_size.Given as goal

abbrev pub invariant-loop-symbol : goal.invariant-loop-symbol
invariant-loop-symbol g l =
    let big = BIG-type g.row.S (number g.row.BIG) in
    record {
      small : l.size < 2 ^ 64;
      sum : counted (l.size + symbols_size big (map g.S.WideSymbol.view (drop l.symbol-index l.symbols))) ≡ counted (symbols_size big (map g.S.WideSymbol.view l.symbols));
    }
