-- One string more.
use Rattle.std.proofs.Common.{[], ◌∷◌, ◌++◌, true, refl, sym, ap, ◌∙◌, map}
use Rattle.pe_version.specs.TablesLeft.{entry_view, entries_left}
use Rattle.pe_version.specs.declared.tables.TableStrings.{TableStrings}
use Rattle.pe_json.specs.Listed.{items_text}
use Rattle.pe_json.specs.VersionRows.{string_row}
use Rattle.pe_json.proofs.Objects.{also_items, adds_none, items_more, items_none, left-out}
use Rattle.pe_json.proofs.RowByRow.{row_more, not_first}
use Rattle.pe_json.proofs.version.write_each_string.Goals as goal

pub loop-string-init : goal.loop-string-init
loop-string-init g c = record {
  can_next = tt;
  is_finite = tt;
  rows = ([], rw items_none (adds_none c.requires), ap (λ (s : TableStrings). map string_row (entries_left s)) c.into_iter-string-iterator.ensures.into_iter_gives, refl);
}

pub loop-string-preserved : goal.loop-string-preserved
loop-string-preserved g c =
    let i = c.loop-string.invariant.rows in
    let s = entry_view c.in-Some.string in
    record {
      can_next = tt;
      is_finite = tt;
      rows = (
        i.0 ++ string_row s ∷ [],
        also_items true i.0 (string_row s ∷ []) _ i.3 i.1 c.write_next_string.ensures,
        row_more string_row i.0 s _ _ _ c.in-Some.ensures.steps i.2,
        not_first i.0 (string_row s),
      );
    }

pub returns-then-has_failed : goal.returns-then-has_failed
returns-then-has_failed g c =
    let i = c.loop-string.invariant.rows in
    left-out _ _ _ _ _ i.1 (c.has_failed.ensures.ends c.if-has_failed.true) (sym (items_more true i.0 (map string_row (entries_left c.loop-string.string-iterator))) ∙ ap (items_text true) i.2)
