-- One symbol more, with its auxiliary records.
use Rattle.std.proofs.Common.{◌∙◌, [], ℕ, List, ◌++◌, refl, ap, sym, subst, append-nil}
use Rattle.std.specs.Prelude.{flat_map}
use Rattle.coff_read.specs.EitherLeft.{either_symbols_left}
use Rattle.coff_read.specs.EitherObject.{form_of, file_of}
use Rattle.coff_read.specs.Records.{Symbol}
use Rattle.coff_read.proofs.EitherFile.{accepted}
use Rattle.pe_text.specs.TextWriter.{Adds}
use Rattle.pe_text.proofs.Adding.{Adds-held, ◌then◌}
use Rattle.coff_lines.proofs.ObjectLines.{left-out}
use Rattle.coff_lines.proofs.ObjectPlaces.{item_lines, items-next, items_shown}
use Rattle.coff_lines.proofs.object_lines.write_symbols.Goals as goal

pub loop-index-init : goal.loop-index-init
loop-index-init g c = (
  [],
  Adds-held g.W.Sink.taken g.W.Sink.failures c.args.text.now c.args.text.now [] c.requires refl (sym (append-nil _)) refl,
  ap (flat_map (item_lines (form_of c.args.object.now))) (ap either_symbols_left c.into_iter-index-iterator.ensures.into_iter_gives ∙ c.symbols-index-items.ensures),
)

pub loop-index-preserved : goal.loop-index-preserved
loop-index-preserved g c =
    let i = c.loop-index.invariant in
    let symbol = rw c.from.ensures at c.write_symbol.ensures in
    let records = rw c.from-in-loop-index.ensures at c.write_aux_records.ensures in
    (_, (i.1 then symbol) then records, items-next (form_of c.args.object.now) _ _ _ _ _ c.in-Some.ensures.steps i.2)

pub returns : goal.returns
returns g c =
    let o = c.args.object.now in
    let i = c.loop-index.invariant in
    subst (Adds g.W.Sink.taken g.W.Sink.failures c.args.text.now c.loop-index.text)
    (sym (append-nil i.0) ∙ ap (λ (left : List (ℕ × Symbol)). i.0 ++ flat_map (item_lines (form_of o)) left) (sym c.in-None.ensures.steps.0) ∙ i.2 ∙ items_shown (form_of o) (file_of o) (accepted o))
    i.1

pub returns-then-has_failed : goal.returns-then-has_failed
returns-then-has_failed g c =
    let o = c.args.object.now in
    let i = c.loop-index.invariant in
    left-out _ _ i.0 _ _ i.1 (c.has_failed.ensures.ends c.if-has_failed.true) (i.2 ∙ items_shown (form_of o) (file_of o) (accepted o))
