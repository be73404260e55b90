use Rattle.std.proofs.Common.{◌≡◌, ◌≤◌, length, map, take, drop}
use Rattle.coff_read.specs.ImageSymbolsLeft.{image_symbols_left}
use Rattle.pe_records_c.specs.Rows.{filled}
use Rattle.pe_records_c.specs.SymbolRows.{symbol_row, symbol_text}
use Rattle.c_tables.proofs.image_symbol.put_symbols.Given as goal

abbrev pub invariant-loop-index : goal.invariant-loop-index
invariant-loop-index l = record {
  told : map symbol_text l.rows ≡ filled symbol_row (take l.count (image_symbols_left l.fn.symbols)) (map symbol_text l.initial.rows);
  left : drop l.count (image_symbols_left l.fn.symbols) ≡ image_symbols_left l.index-iterator;
  within : l.count ≤ length (image_symbols_left l.fn.symbols);
}
