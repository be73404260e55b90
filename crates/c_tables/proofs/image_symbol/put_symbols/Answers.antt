-- One more symbol of those that are left.
use Rattle.std.proofs.Common.{◌≤◌, ◌∙◌, length, arith}
use Rattle.coff_read.specs.ImageSymbolsLeft.{image_symbols_left}
use Rattle.coff_read.specs.SymbolsLeft.{item_view}
use Rattle.pe_records_c.specs.SymbolRows.{symbol_row, symbol_text}
use Rattle.pe_records_c.proofs.Left.{first_left, none_left}
use Rattle.c_tables.proofs.FewRows.{got_within}
use Rattle.c_tables.proofs.FilledRows.{filled_all, row_stored}
use Rattle.c_tables.proofs.FewSymbols.{few_symbols}
use Rattle.c_tables.proofs.image_symbol.put_symbols.Goals as goal

pub loop-index-preserved : goal.loop-index-preserved
loop-index-preserved c =
    let i = c.loop-index.invariant in
    let all = image_symbols_left c.args.symbols in
    let shown = item_view (c.in-Some.index, c.in-Some.symbol) in
    let next = first_left all c.loop-index.count shown (image_symbols_left c.next.new.self) (i.left ∙ c.in-Some.ensures.steps) in
    record {
      told = row_stored symbol_text symbol_row all _ c.loop-index.rows c.put_row.new.rows c.loop-index.count shown c.of.result next.0 i.told c.of.ensures c.put_row.ensures;
      left = next.1;
      within = got_within all c.loop-index.count shown next.0;
    }

pub overflow_add-count : goal.overflow_add-count
overflow_add-count c =
    let within = (loop-index-preserved c).within in
    let few = few_symbols c.args.symbols in
    omega (arith, within, few)

pub returns-clause-rows : goal.returns-clause-rows
returns-clause-rows c =
    let i = c.loop-index.invariant in
    let all = image_symbols_left c.args.symbols in
    let end : length all ≤ c.loop-index.count = none_left all c.loop-index.count (i.left ∙ c.in-None.ensures.steps.0) in
    i.told ∙ filled_all symbol_row all _ c.loop-index.count end

pub returns-clause-count : goal.returns-clause-count
returns-clause-count c =
    let i = c.loop-index.invariant in
    let all = image_symbols_left c.args.symbols in
    let end : length all ≤ c.loop-index.count = none_left all c.loop-index.count (i.left ∙ c.in-None.ensures.steps.0) in
    let within = i.within in
    omega (arith, end, within)
