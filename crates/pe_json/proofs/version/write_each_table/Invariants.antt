use Rattle.std.proofs.Common.{◌≡◌, ◌++◌, true, ℕ, List, map}
use Rattle.pe_text.specs.TextWriter.{Adds}
use Rattle.pe_version.specs.TablesLeft.{tables_left}
use Rattle.pe_json.specs.Listed.{is_nil, items_text}
use Rattle.pe_json.specs.VersionRows.{table_row}
use Rattle.pe_json.proofs.version.write_each_table.Given as goal

abbrev pub invariant-loop-table : goal.invariant-loop-table
invariant-loop-table g l = record {
  can_next : (goal.iterator-loop-table g).can_next l.table-iterator;
  is_finite : (goal.iterator-loop-table g).is_finite l.table-iterator;
  rows : (written : List (List ℕ)) × Adds g.W.Sink.taken g.W.Sink.failures l.initial.text l.text (items_text true written)
      × (written ++ map table_row (tables_left l.table-iterator) ≡ map table_row (tables_left l.tables))
      × (l.first ≡ is_nil written);
}
