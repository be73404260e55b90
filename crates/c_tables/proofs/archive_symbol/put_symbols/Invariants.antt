use Rattle.std.proofs.Common.{◌≡◌, ◌≤◌, length, map, take, drop}
use Rattle.coff_archive.specs.SymbolsLeft.{symbols_left}
use Rattle.pe_records_c.specs.Rows.{filled}
use Rattle.c_tables.specs.ArchiveSymbolRows.{symbol_row, symbol_text}
use Rattle.c_tables.proofs.archive_symbol.put_symbols.Given as goal

abbrev pub invariant-loop-symbol : goal.invariant-loop-symbol
invariant-loop-symbol l = record {
  told : map symbol_text l.rows ≡ filled symbol_row (take l.count (symbols_left l.symbols)) (map symbol_text l.initial.rows);
  left : drop l.count (symbols_left l.symbols) ≡ symbols_left l.symbol-iterator;
  within : l.count ≤ length (symbols_left l.symbols);
}
