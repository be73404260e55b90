-- One table more.
use Rattle.std.proofs.Common.{[], ◌∷◌, ◌++◌, true, refl, sym, ap, ◌∙◌, map}
use Rattle.pe_version.specs.TablesLeft.{table_view, tables_left}
use Rattle.pe_version.specs.declared.tables.VersionTables.{VersionTables}
use Rattle.pe_json.specs.Listed.{items_text}
use Rattle.pe_json.specs.VersionRows.{table_row}
use Rattle.pe_json.proofs.Objects.{also_items, adds_none, items_more, items_none, left-out}
use Rattle.pe_json.proofs.RowByRow.{row_more, not_first}
use Rattle.pe_json.proofs.version.write_each_table.Goals as goal

pub loop-table-init : goal.loop-table-init
loop-table-init g c = record {
  can_next = tt;
  is_finite = tt;
  rows = ([], rw items_none (adds_none c.requires), ap (λ (s : VersionTables). map table_row (tables_left s)) c.into_iter-table-iterator.ensures.into_iter_gives, refl);
}

pub loop-table-preserved : goal.loop-table-preserved
loop-table-preserved g c =
    let i = c.loop-table.invariant.rows in
    let s = table_view c.in-Some.table in
    record {
      can_next = tt;
      is_finite = tt;
      rows = (
        i.0 ++ table_row s ∷ [],
        also_items true i.0 (table_row s ∷ []) _ i.3 i.1 c.write_next_table.ensures,
        row_more table_row i.0 s _ _ _ c.in-Some.ensures.steps i.2,
        not_first i.0 (table_row s),
      );
    }

pub returns-then-has_failed : goal.returns-then-has_failed
returns-then-has_failed g c =
    let i = c.loop-table.invariant.rows in
    left-out _ _ _ _ _ i.1 (c.has_failed.ensures.ends c.if-has_failed.true) (sym (items_more true i.0 (map table_row (tables_left c.loop-table.table-iterator))) ∙ ap (items_text true) i.2)
