-- One symbol more.
use Rattle.std.proofs.Common.{◌∙◌, [], true, ℕ, List, ◌++◌, map, refl, ap, sym, subst, append-nil}
use Rattle.coff_archive.specs.Symbols.{Symbol}
use Rattle.coff_archive.specs.SymbolsLeft.{symbols_left}
use Rattle.pe_text.specs.TextWriter.{Adds}
use Rattle.pe_json.specs.Listed.{items_text}
use Rattle.pe_json.proofs.Objects.{adds_none, items_none, also_items, left-out, items_more}
use Rattle.pe_json.proofs.RowByRow.{mapped-next, not_nil}
use Rattle.coff_archive_json.specs.SymbolRows.{symbol_row}
use Rattle.coff_archive_json.proofs.symbols.write_rows.Goals as goal

pub loop-symbol-init : goal.loop-symbol-init
loop-symbol-init g c = ([], rw items_none (adds_none c.requires), ap (λ s. map symbol_row (symbols_left s)) c.into_iter-symbol-iterator.ensures.into_iter_gives, refl)

pub loop-symbol-preserved : goal.loop-symbol-preserved
loop-symbol-preserved g c =
    let i = c.loop-symbol.invariant in
    (_, also_items true i.0 _ _ i.3 i.1 c.write_next.ensures, mapped-next symbol_row _ _ _ _ _ c.in-Some.ensures.steps i.2, sym (not_nil i.0 _))

pub returns : goal.returns
returns g c =
    let i = c.loop-symbol.invariant in
    subst (λ (ts : List (List ℕ)). Adds g.W.Sink.taken g.W.Sink.failures c.args.text.now c.loop-symbol.text (items_text true ts))
    (sym (append-nil i.0) ∙ ap (λ (left : List Symbol). i.0 ++ map symbol_row left) (sym c.in-None.ensures.steps.0) ∙ i.2)
    i.1

pub returns-then-has_failed : goal.returns-then-has_failed
returns-then-has_failed g c =
    let i = c.loop-symbol.invariant in
    let all = mapped-next symbol_row _ _ _ _ _ c.in-Some.ensures.steps i.2 in
    left-out _ _ _ _ _ (also_items true i.0 _ _ i.3 i.1 c.write_next.ensures) (c.has_failed.ensures.ends c.if-has_failed.true) (sym (items_more true _ _) ∙ ap (items_text true) all)
