use Rattle.std.proofs.Common.{◌≡◌, ℕ, ◌<◌, drop, get_or}
use Rattle.c_tables.specs.SymbolRows.{symbol_row, symbol_text, symbols_of}
use Rattle.c_tables.specs.declared.symbol.EitherObjectSymbolRow.{EitherObjectSymbolRow}
use Rattle.coff_read.specs.EitherLeft.{each_either_symbol_left}
use Rattle.coff_read.specs.EitherObject.{file_of, form_of}
use Rattle.coff_read.specs.Records.{Symbol}
use Rattle.c_tables.proofs.symbol.put_symbols.Given as goal

abbrev pub invariant-loop-index : goal.invariant-loop-index
invariant-loop-index l = record {
  told : (symbol : ℕ × Symbol) (row : EitherObjectSymbolRow) (k : ℕ) → k < l.index → symbol_text (get_or l.rows k row) ≡ symbol_row (get_or (symbols_of (form_of l.object) (file_of l.object)) k symbol);
  others : drop l.index l.rows ≡ drop l.index l.initial.rows;
  left : each_either_symbol_left l.symbols ≡ drop l.index (symbols_of (form_of l.object) (file_of l.object));
}
