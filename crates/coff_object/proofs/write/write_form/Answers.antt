-- The tests of the names come first, then those of the sections, then those of the whole.
use denote.Param.{number}
use Rattle.std.proofs.Common.{arith, ◌∙◌, ◌++◌, List, ℕ, sym, subst}
use Rattle.std.proofs.lemmas.Result.{err_from_is_err_and}
use Rattle.pe_view.specs.FirstStanding.{first-in, first-past, none-append}
use Rattle.pe_view.specs.Faults.{Test}
use Rattle.coff_read.specs.FormFaults.{IsObjectOf}
use Rattle.coff_object.specs.PartsView.{parts_view}
use Rattle.coff_object.specs.FormWriteFaults.{form_tests, write_tests}
use Rattle.coff_object.specs.WriteFaults.{each_item, is_far, has_many_relocations, name_tests, section_tests}
use Rattle.coff_object.specs.Written.{strings_of}
use Rattle.coff_object.specs.contracts.write.write_form.{BIG-type}
use Rattle.coff_object.proofs.Form.{writable}
use Rattle.coff_object.proofs.ReadBack.{read_back}
use Rattle.coff_object.proofs.Writable.{none_each}
use Rattle.coff_object.proofs.write.write_form.Goals as goal

pub returns-in_err-check_names-clause-exact : goal.returns-in_err-check_names-clause-exact
unfolding write_tests
returns-in_err-check_names-clause-exact g c =
    let big = BIG-type g.row.A g.row.S (number g.row.BIG) in
    let o = parts_view g.S.WideSymbol.view c.args.object.now in
    let p = err_from_is_err_and c.from_residual.result c.from_residual.ensures.1 in
    rw (p.1, p.2) (first-in (name_tests o) (section_tests o ++ form_tests big o) _ c.in_err-check_names.ensures)

pub returns-in_err-check_sections-clause-exact : goal.returns-in_err-check_sections-clause-exact
unfolding write_tests
returns-in_err-check_sections-clause-exact g c =
    let big = BIG-type g.row.A g.row.S (number g.row.BIG) in
    let o = parts_view g.S.WideSymbol.view c.args.object.now in
    let p = err_from_is_err_and c.from_residual-in_err-check_sections.result c.from_residual-in_err-check_sections.ensures.1 in
    rw (p.1, p.2) (first-past (name_tests o) (section_tests o ++ form_tests big o) c.in_ok-check_names.ensures.0 ∙ first-in (section_tests o) (form_tests big o) _ c.in_err-check_sections.ensures)

pub check_form-requires : goal.check_form-requires
check_form-requires g c =
    let o = parts_view g.S.WideSymbol.view c.args.object.now in
    let far : List Test = each_item 82 (is_far (strings_of o)) 0 o.sections in
    let parts = none-append far (each_item 83 has_many_relocations 0 o.sections) c.in_ok-check_sections.ensures.0 in
    (omega arith, (c.in_ok-places.ensures.texts, (none_each 82 (is_far (strings_of o)) 0 o.sections parts.0, c.record_count-records.ensures)))

pub returns-in_err-size-clause-exact : goal.returns-in_err-size-clause-exact
unfolding write_tests
returns-in_err-size-clause-exact g c =
    let big = BIG-type g.row.A g.row.S (number g.row.BIG) in
    let o = parts_view g.S.WideSymbol.view c.args.object.now in
    let p = err_from_is_err_and c.from_residual-in_err-size.result c.from_residual-in_err-size.ensures.1 in
    rw (p.1, p.2) (first-past (name_tests o) (section_tests o ++ form_tests big o) c.in_ok-check_names.ensures.0 ∙ first-past (section_tests o) (form_tests big o) c.in_ok-check_sections.ensures.0 ∙ c.in_err-size.ensures)

pub overflow_cast-records : goal.overflow_cast-records
unfolding write_tests
overflow_cast-records g c =
    let big = BIG-type g.row.A g.row.S (number g.row.BIG) in
    let o = parts_view g.S.WideSymbol.view c.args.object.now in
    let form = writable big o (first-past (name_tests o) (section_tests o ++ form_tests big o) c.in_ok-check_names.ensures.0 ∙ first-past (section_tests o) (form_tests big o) c.in_ok-check_sections.ensures.0 ∙ c.in_ok-size.ensures.0) in
    let told = c.record_count-records.ensures in
    let few = form.records in
    omega (arith, told, few)

pub write_parts-requires : goal.write_parts-requires
unfolding write_tests
write_parts-requires g c =
    let big = BIG-type g.row.A g.row.S (number g.row.BIG) in
    let o = parts_view g.S.WideSymbol.view c.args.object.now in
    let form = writable big o (first-past (name_tests o) (section_tests o ++ form_tests big o) c.in_ok-check_names.ensures.0 ∙ first-past (section_tests o) (form_tests big o) c.in_ok-check_sections.ensures.0 ∙ c.in_ok-size.ensures.0) in
    let told = c.record_count-records.ensures in
    let few = form.records in
    (omega arith, (c.in_ok-places.ensures, (form, omega (arith, told, few))))

pub returns-clause-exact : goal.returns-clause-exact
unfolding write_tests
returns-clause-exact g c =
    let big = BIG-type g.row.A g.row.S (number g.row.BIG) in
    let o = parts_view g.S.WideSymbol.view c.args.object.now in (
      first-past (name_tests o) (section_tests o ++ form_tests big o) c.in_ok-check_names.ensures.0 ∙ first-past (section_tests o) (form_tests big o) c.in_ok-check_sections.ensures.0 ∙ c.in_ok-size.ensures.0,
      c.in_ok-bytes.ensures.bytes,
    )

pub returns-clause-read_back : goal.returns-clause-read_back
unfolding write_tests
returns-clause-read_back g c =
    let big = BIG-type g.row.A g.row.S (number g.row.BIG) in
    let o = parts_view g.S.WideSymbol.view c.args.object.now in
    let none =
    first-past (name_tests o) (section_tests o ++ form_tests big o) c.in_ok-check_names.ensures.0 ∙ first-past (section_tests o) (form_tests big o) c.in_ok-check_sections.ensures.0 ∙ c.in_ok-size.ensures.0 in
    subst (λ (bytes : List ℕ). IsObjectOf big bytes o) (sym c.in_ok-bytes.ensures.bytes) (read_back big o c.in_ok-bytes.ensures.fits none)
