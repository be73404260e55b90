-- One more section of those that are left.
use Rattle.std.proofs.Common.{◌<◌, ◌≤◌, ◌∙◌, length, refl, sym, rules, arith}
use Rattle.coff_read.specs.EitherLeft.{each_either_section_left}
use Rattle.coff_read.specs.EitherObject.{file_of, form_of}
use Rattle.coff_read.specs.FileView.{file_section_view}
use Rattle.coff_read.specs.FormReading.{object_of}
use Rattle.pe_records_c.specs.ObjectRows.{section_text, section_row}
use Rattle.pe_records_c.proofs.Left.{first_left, none_left}
use Rattle.pe_records_c.proofs.Rows.{told_step, rest_step}
use Rattle.c_tables.proofs.section.put_sections.Goals as goal

pub loop-index-init : goal.loop-index-init
loop-index-init c = record {
  told = λ section row k h. absurd (omega (arith, h));
  others = refl;
  left = c.each_section-sections.ensures;
}

pub loop-index-preserved : goal.loop-index-preserved
loop-index-preserved c =
    let i = c.loop-index.invariant in
    let table = (object_of (form_of c.args.object.now) (file_of c.args.object.now)).sections in
    let shown = file_section_view c.in-Some.section in
    let next = first_left table c.loop-index.index shown (each_either_section_left c.next.new.self) (sym i.left ∙ c.in-Some.ensures.steps) in
    let under : c.loop-index.index < length c.loop-index.rows = search rules in
    record {
      told = told_step section_text section_row table c.loop-index.rows c.loop-index.index shown c.of.result under next.0 c.of.ensures i.told;
      others = rest_step c.loop-index.rows c.args.rows.now c.loop-index.index c.of.result i.others;
      left = sym next.1;
    }

pub returns-in-None : goal.returns-in-None
returns-in-None c =
    let table = (object_of (form_of c.args.object.now) (file_of c.args.object.now)).sections in
    let over : length table ≤ c.loop-index.index = none_left table c.loop-index.index (sym c.loop-index.invariant.left ∙ c.in-None.ensures.steps.0) in
    let under : c.loop-index.index < length table = search rules in
    absurd (omega (arith, under, over))
