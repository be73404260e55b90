-- The rows are those of the object's symbols.
use Rattle.c_tables.specs.SymbolRows.{symbol_row, symbol_text, symbols_of}
use Rattle.coff_read.specs.EitherObject.{file_of, form_of}
use Rattle.pe_records_c.proofs.Rows.{table_of}
use Rattle.c_tables.proofs.symbol.tell_symbols.Goals as goal

pub returns : goal.returns
returns c = table_of symbol_text symbol_row (symbols_of (form_of c.args.object.now) (file_of c.args.object.now)) _ _ _ _ c.put_symbols.ensures c.symbol_count.ensures c.table_status.ensures
