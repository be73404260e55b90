-- Each section is pushed, in table order.
use Rattle.std.proofs.Common.{◌∙◌, ◌++◌, List, ap, sym, append-nil}
use Rattle.std.specs.Prelude.{map}
use Rattle.coff_read.specs.EitherLeft.{each_either_section_left}
use Rattle.coff_read.specs.EitherObject.{form_of, file_of}
use Rattle.coff_read.specs.FileView.{file_section_view}
use Rattle.coff_read.specs.FormReading.{object_of}
use Rattle.coff_read.specs.Records.{Section}
use Rattle.pe_page.proofs.Pushed.{pushed_more}
use Rattle.pe_page.proofs.file_sections.read_sections.Goals as goal

pub loop-section-init : goal.loop-section-init
loop-section-init g c =
    rw c.in_ok-sections.ensures.items
    (ap each_either_section_left c.into_iter-section-iterator.ensures.into_iter_gives ∙ c.each_section-section-items.ensures)

pub loop-section-preserved : goal.loop-section-preserved
loop-section-preserved g c =
    rw c.in_ok-push.ensures.items
    (pushed_more file_section_view c.loop-section.sections.items c.in-Some.section (each_either_section_left c.loop-section.section-iterator) (each_either_section_left c.next.new.self) (object_of (form_of c.args.object.now) (file_of c.args.object.now)).sections
    c.in-Some.ensures.steps c.loop-section.invariant)

pub returns : goal.returns
returns g c =
    let done = map file_section_view c.loop-section.sections.items in
    sym (append-nil done) ∙ ap (λ (left : List Section). done ++ left) (sym c.in-None.ensures.steps.0) ∙ c.loop-section.invariant
