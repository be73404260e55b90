-- The relocations of one more section.
use Rattle.std.proofs.Common.{◌≡◌, ◌∙◌, ◌+◌, ◌∷◌, ℕ, List, drop, length, take, sym, ap, subst, arith}
use Rattle.std.specs.List.{flat_map}
use Rattle.std.proofs.lemmas.List.{drop_all, length-drop, length-take-le, take_all}
use Rattle.c_tables.specs.Relocations.{relocations_of}
use Rattle.coff_read.specs.EitherLeft.{each_either_section_left}
use Rattle.coff_read.specs.FileView.{file_section_view, relocations_view}
use Rattle.coff_read.specs.EitherObject.{file_of, form_of}
use Rattle.coff_read.specs.FormReading.{object_of}
use Rattle.coff_read.specs.Records.{Section}
use Rattle.coff_read.specs.declared.relocation.Relocation.{Relocation}
use Rattle.pe_records_c.specs.ObjectRows.{relocation_row, FillsRelocations}
use Rattle.pe_records_c.specs.declared.object.ObjectRelocationRow.{ObjectRelocationRow}
use Rattle.pe_records_c.proofs.Left.{none_left}
use Rattle.c_tables.proofs.Sections.{few_sections}
use Rattle.pe_records_c.proofs.Parts.{nothing_told, passed_more}
use Rattle.c_tables.proofs.relocation.put_all_relocations.Goals as goal

pub loop-section-init : goal.loop-section-init
unfolding relocations_of
loop-section-init c =
    let left : each_either_section_left c.into_iter-section-iterator.result ≡ (object_of (form_of c.args.object.now) (file_of c.args.object.now)).sections = ap each_either_section_left c.into_iter-section-iterator.ensures.into_iter_gives ∙ c.each_section-section-items.ensures in
    record {
      told = subst (λ (ts : List Relocation). FillsRelocations ts c.args.rows.now c.args.rows.now) (sym (drop_all c.args.skipped _ (omega arith))) (nothing_told (λ (relocation : Relocation) (row : ObjectRelocationRow). row ≡ relocation_row relocation) c.args.rows.now);
      left = ap (flat_map (λ (s : Section). s.relocations)) (sym left);
      within = omega arith;
      small = omega (arith, ap length left);
    }

pub loop-section-preserved : goal.loop-section-preserved
loop-section-preserved c =
    let i = c.loop-section.invariant in
    let all = relocations_of (form_of c.args.object.now) (file_of c.args.object.now) in
    let now = relocations_view c.in-Some.section.relocations in
    let left = each_either_section_left c.next.new.self in
    let steps : each_either_section_left c.loop-section.section-iterator ≡ file_section_view c.in-Some.section ∷ left = c.in-Some.ensures.steps in
    let passed = passed_more all now (flat_map (λ (s : Section). s.relocations) left) c.loop-section.earlier i.within (i.left ∙ ap (flat_map (λ (s : Section). s.relocations)) steps) in
    let len = c.len-earlier.ensures.value in
    let next : c.loop-section.earlier + length now ≡ c.loop-section.earlier + c.len-earlier.result = omega (arith, len) in
    let many : length (take c.loop-section.earlier all) ≡ c.loop-section.earlier = length-take-le c.loop-section.earlier all i.within in
    let told = c.put_more_relocations.ensures (take c.loop-section.earlier all) c.args.rows.now many i.told in
    record {
      told = subst (λ (ts : List Relocation). FillsRelocations (drop c.args.skipped ts) c.args.rows.now c.put_more_relocations.new.rows) (sym passed.before ∙ ap (λ (n : ℕ). take n all) next) told;
      left = ap (λ (n : ℕ). drop n all) (sym next) ∙ passed.behind;
      within = omega (arith, next, passed.within);
      small = omega (arith, i.small, ap length steps, c.len-earlier.ensures.few);
    }

pub overflow_add-earlier : goal.overflow_add-earlier
overflow_add-earlier c =
    let i = c.loop-section.invariant in
    let steps : each_either_section_left c.loop-section.section-iterator ≡ file_section_view c.in-Some.section ∷ each_either_section_left c.next.new.self = c.in-Some.ensures.steps in
    let few = few_sections c.args.object.now in
    omega (arith, i.small, ap length steps, c.len-earlier.ensures.few, few)

pub returns-clause-rows : goal.returns-clause-rows
returns-clause-rows c =
    let i = c.loop-section.invariant in
    let all = relocations_of (form_of c.args.object.now) (file_of c.args.object.now) in
    let end = none_left all c.loop-section.earlier (i.left ∙ ap (flat_map (λ (s : Section). s.relocations)) c.in-None.ensures.steps.0) in
    subst (λ (ts : List Relocation). FillsRelocations (drop c.args.skipped ts) c.args.rows.now c.loop-section.rows) (take_all c.loop-section.earlier all end) i.told

pub returns-clause-count : goal.returns-clause-count
returns-clause-count c =
    let i = c.loop-section.invariant in
    let all = relocations_of (form_of c.args.object.now) (file_of c.args.object.now) in
    let end = none_left all c.loop-section.earlier (i.left ∙ ap (flat_map (λ (s : Section). s.relocations)) c.in-None.ensures.steps.0) in
    omega (arith, end, i.within, length-drop c.args.skipped all)
