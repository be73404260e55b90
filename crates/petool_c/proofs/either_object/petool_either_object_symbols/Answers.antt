-- The rows are those of the symbols of the file's object.
use Rattle.std.proofs.Common.{ℕ, List}
use Rattle.c_tables.specs.SymbolRows.{symbol_row, symbol_text, symbols_of}
use Rattle.coff_read.specs.Forms.{Form}
use Rattle.pe_records_c.specs.Rows.{TellsTable}
use Rattle.pe_records_c.proofs.Telling.{fault_told, none_refused, table_no_fault}
use Rattle.petool_c.proofs.OfFile.{of_file}
use Rattle.petool_c.proofs.either_object.petool_either_object_symbols.Goals as goal

pub returns-in-Ok-clause-refused : goal.returns-in-Ok-clause-refused
returns-in-Ok-clause-refused c = none_refused _ _ _ c.in-Ok.ensures.0 (table_no_fault _ _ _ _ _ _ _ c.tell_symbols.ensures)

pub returns-in-Ok-clause-table : goal.returns-in-Ok-clause-table
returns-in-Ok-clause-table c = λ _.
    of_file (λ (big : Form) (file : List ℕ). TellsTable symbol_text symbol_row (symbols_of big file) c.args.rows.now c.tell_symbols.new.rows c.tell_symbols.new.count c.tell_symbols.result) c.in-Ok.object _ _ c.in-Ok.ensures.1 c.tell_symbols.ensures

pub returns-in-Ok-clause-rows_kept : goal.returns-in-Ok-clause-rows_kept
returns-in-Ok-clause-rows_kept c = λ one. absurd (table_no_fault _ _ _ _ _ _ _ c.tell_symbols.ensures one)

pub returns-in-Ok-clause-count_kept : goal.returns-in-Ok-clause-count_kept
returns-in-Ok-clause-count_kept c = λ one. absurd (table_no_fault _ _ _ _ _ _ _ c.tell_symbols.ensures one)

pub returns-in-Err-clause-refused : goal.returns-in-Err-clause-refused
returns-in-Err-clause-refused c = fault_told _ c.in-Err.first _ _ _ c.in-Err.ensures c.refuse.ensures.status c.refuse.ensures.told
