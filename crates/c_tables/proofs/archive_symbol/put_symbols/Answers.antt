-- One more symbol of those that are left.
use Rattle.std.proofs.Common.{◌≤◌, ◌∙◌, length, arith}
use Rattle.coff_archive.specs.SymbolsLeft.{symbol_view, symbols_left}
use Rattle.pe_records_c.proofs.Left.{first_left, none_left}
use Rattle.c_tables.proofs.FewRows.{got_within}
use Rattle.c_tables.proofs.FilledRows.{filled_all, row_stored}
use Rattle.c_tables.specs.ArchiveSymbolRows.{symbol_row, symbol_text}
use Rattle.c_tables.proofs.FewMembers.{few_symbols}
use Rattle.c_tables.proofs.archive_symbol.put_symbols.Goals as goal

pub loop-symbol-preserved : goal.loop-symbol-preserved
loop-symbol-preserved c =
    let i = c.loop-symbol.invariant in
    let all = symbols_left c.args.symbols in
    let shown = symbol_view c.in-Some.symbol in
    let next = first_left all c.loop-symbol.count shown (symbols_left c.next.new.self) (i.left ∙ c.in-Some.ensures.steps) in
    record {
      told = row_stored symbol_text symbol_row all _ c.loop-symbol.rows c.put_row.new.rows c.loop-symbol.count shown c.of.result next.0 i.told c.of.ensures c.put_row.ensures;
      left = next.1;
      within = got_within all c.loop-symbol.count shown next.0;
    }

pub overflow_add-count : goal.overflow_add-count
overflow_add-count c =
    let within = (loop-symbol-preserved c).within in
    let few = few_symbols c.args.symbols in
    omega (arith, within, few)

pub returns-clause-rows : goal.returns-clause-rows
returns-clause-rows c =
    let i = c.loop-symbol.invariant in
    let all = symbols_left c.args.symbols in
    let end : length all ≤ c.loop-symbol.count = none_left all c.loop-symbol.count (i.left ∙ c.in-None.ensures.steps.0) in
    i.told ∙ filled_all symbol_row all _ c.loop-symbol.count end

pub returns-clause-count : goal.returns-clause-count
returns-clause-count c =
    let i = c.loop-symbol.invariant in
    let all = symbols_left c.args.symbols in
    let end : length all ≤ c.loop-symbol.count = none_left all c.loop-symbol.count (i.left ∙ c.in-None.ensures.steps.0) in
    let within = i.within in
    omega (arith, end, within)
