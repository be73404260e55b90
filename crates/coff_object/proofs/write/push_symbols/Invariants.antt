use denote.Param.{number}
use Rattle.std.proofs.Common.{◌≡◌, ◌++◌, ◌<◌, ◌^◌, length, drop}
use Rattle.std.specs.Prelude.{map}
use Rattle.std.specs.List.{flat_map, AllByRecursion}
use Rattle.coff_read.specs.Records.{Symbol, SymbolFits}
use Rattle.coff_object.specs.StringTableWords.{texts_in}
use Rattle.coff_read.specs.FormRecords.{section_number, aux_records}
use Rattle.coff_object.specs.FormWritten.{number_limit, symbol_bytes}
use Rattle.coff_object.specs.contracts.write.push_symbols.{BIG-type}
use Rattle.coff_object.proofs.write.push_symbols.Given as goal

abbrev pub invariant-loop-symbol : goal.invariant-loop-symbol
invariant-loop-symbol g l =
    let big = BIG-type g.row.A g.row.S (number g.row.BIG) in
    record {
      few : AllByRecursion (λ (s : Symbol). aux_records big s < 2 ^ 8) (map g.S.WideSymbol.view (drop (length l.yielded) l.symbols));
      near : AllByRecursion (λ (s : Symbol). section_number big s.section < number_limit big) (map g.S.WideSymbol.view (drop (length l.yielded) l.symbols));
      told : AllByRecursion SymbolFits (map g.S.WideSymbol.view (drop (length l.yielded) l.symbols)) → AllByRecursion SymbolFits (map g.S.WideSymbol.view l.symbols);
      bytes :
          l.bytes.items ++ flat_map (symbol_bytes big (texts_in l.places.strings)) (map g.S.WideSymbol.view (drop (length l.yielded) l.symbols))
          ≡ l.initial.bytes.items ++ flat_map (symbol_bytes big (texts_in l.places.strings)) (map g.S.WideSymbol.view l.symbols);
    }
