-- One symbol more.
use Rattle.std.proofs.Common.{◌∙◌, [], true, ℕ, List, ◌++◌, map, refl, ap, sym, subst, append-nil}
use Rattle.coff_read.specs.EitherLeft.{either_symbols_left}
use Rattle.coff_read.specs.EitherObject.{form_of}
use Rattle.coff_read.specs.Forms.{Form}
use Rattle.coff_read.specs.Records.{Symbol}
use Rattle.pe_text.specs.TextWriter.{Adds}
use Rattle.pe_json.specs.Listed.{items_text}
use Rattle.pe_json.specs.ObjectLine.{symbol_row}
use Rattle.pe_json.proofs.Objects.{adds_none, items_none, also_items, left-out, items_more}
use Rattle.pe_json.proofs.RowByRow.{mapped-next, not_nil}
use Rattle.pe_json.proofs.symbols.write_rows.Goals as goal

-- the row of a symbol with the index of its record
abbrev row_of : Form → ℕ × Symbol → List ℕ
row_of big item = symbol_row big item.0 item.1

pub loop-index-init : goal.loop-index-init
loop-index-init g c = (
  [],
  rw items_none (adds_none c.requires),
  ap (map (row_of (form_of c.args.object.now))) (ap either_symbols_left c.into_iter-index-iterator.ensures.into_iter_gives ∙ c.symbols-index-items.ensures),
  refl,
)

pub loop-index-preserved : goal.loop-index-preserved
loop-index-preserved g c =
    let i = c.loop-index.invariant in
    (_, also_items true i.0 _ _ i.3 i.1 (rw c.is_big.ensures at c.write_next.ensures), mapped-next (row_of (form_of c.args.object.now)) _ _ _ _ _ c.in-Some.ensures.steps i.2, sym (not_nil i.0 _))

pub returns : goal.returns
returns g c =
    let i = c.loop-index.invariant in
    subst (λ (ts : List (List ℕ)). Adds g.W.Sink.taken g.W.Sink.failures c.args.text.now c.loop-index.text (items_text true ts))
    (sym (append-nil i.0) ∙ ap (λ (left : List (ℕ × Symbol)). i.0 ++ map (row_of (form_of c.args.object.now)) left) (sym c.in-None.ensures.steps.0) ∙ i.2)
    i.1

pub returns-then-has_failed : goal.returns-then-has_failed
returns-then-has_failed g c =
    let i = c.loop-index.invariant in
    left-out _ _ _ _ _ i.1 (c.has_failed.ensures.ends c.if-has_failed.true) (sym (items_more true i.0 _) ∙ ap (items_text true) i.2)
