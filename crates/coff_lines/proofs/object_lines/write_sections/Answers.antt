-- One section more, with its relocations.
use Rattle.std.proofs.Common.{◌≡◌, ℕ, zero, suc, ◌<◌, List, [], ◌∷◌, length, Option, Some, None, refl, sym, arith, append-nil}
use Rattle.std.specs.Prelude.{IsSome, option_map, slice_get}
use Rattle.coff_lines.specs.ObjectLines.{section_lines}
use Rattle.coff_read.specs.EitherObject.{form_of, file_of}
use Rattle.coff_read.specs.FileView.{file_section_view}
use Rattle.coff_read.specs.FormReading.{object_of}
use Rattle.pe_text.proofs.Adding.{Adds-held, ◌then◌}
use Rattle.coff_lines.proofs.ObjectLines.{section-next, left-out}
use Rattle.coff_lines.proofs.object_lines.write_sections.Goals as goal

-- there is an item at each index of a list
some_there : {A B : Type 0} (f : A → B) (found : Option A) (xs : List B) (i : ℕ) → i < length xs → option_map f found ≡ slice_get xs i → IsSome found
some_there f None [] i below is = absurd (omega arith)
some_there f None (x ∷ xs) zero below is = absurd cc
some_there f None (x ∷ xs) (suc i) below is = some_there f None xs i (omega arith) is
some_there f (Some a) xs i below is = refl

pub loop-index-init : goal.loop-index-init
loop-index-init g c = ([], Adds-held g.W.Sink.taken g.W.Sink.failures c.args.text.now c.args.text.now [] c.requires refl (sym (append-nil _)) refl, refl)

pub unwrap-section-requires : goal.unwrap-section-requires
unwrap-section-requires g c =
    let o = c.args.object.now in
    let count = c.section_count-index-end.ensures in
    let under = c.loop-index-test.true in
    some_there file_section_view c.section.result (object_of (form_of o) (file_of o)).sections c.loop-index.index (omega (arith, under, count)) c.section.ensures

pub loop-index-preserved : goal.loop-index-preserved
loop-index-preserved g c =
    let i = c.loop-index.invariant in
    let count = c.section_count-index-end.ensures in
    let under = c.loop-index-test.true in
    let is = sym (rw c.unwrap-section.ensures at c.section.ensures) in (
      _,
      i.1 then (c.write_section.ensures then c.write_relocations.ensures),
      section-next (section_lines c.args.machine) c.loop-index.index _ _ _ _ (omega (arith, under, count)) is i.2,
    )

pub returns-then-has_failed : goal.returns-then-has_failed
returns-then-has_failed g c =
    let i = c.loop-index.invariant in
    left-out _ _ i.0 _ _ i.1 (c.has_failed.ensures.ends c.if-has_failed.true) i.2
