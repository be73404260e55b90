-- What both forms are written by, at the big form.
use Rattle.std.proofs.Common.{◌≡◌, Some, refl, sym, subst}
use Rattle.std.specs.Prelude.{map}
use Rattle.std.proofs.lemmas.Result.{IfOk-weaker}
use Rattle.pe_view.specs.Faults.{AnswersOrWants, first_standing}
use Rattle.coff_read.specs.BigView.{big_symbol_view, big_object_view}
use Rattle.coff_read.specs.FormFaults.{IsObjectOf}
use Rattle.coff_read.specs.Forms.{Big}
use Rattle.coff_read.specs.ObjectView.{section_view}
use Rattle.coff_read.specs.Records.{Object}
use Rattle.coff_object.specs.FormWriteFaults.{write_tests}
use Rattle.coff_object.specs.FormWritten.{canon}
use Rattle.coff_object.specs.WriteFaults.{name_tests}
use Rattle.coff_object.proofs.write.write_big_object.Goals as goal

pub returns-clause-exact : goal.returns-clause-exact
returns-clause-exact g c =
    let o = big_object_view c.args.object.now in
    let p : Object = record o { sections = map section_view c.as_slice.result.now; symbols = map big_symbol_view c.as_slice-2.result.now } in
    let same : p ≡ o = rw (c.as_slice.ensures.value, c.as_slice-2.ensures.value) refl in
    subst (λ (q : Object). AnswersOrWants (write_tests Big q) (λ bytes. bytes.items ≡ canon Big q) c.write_form.result) same c.write_form.ensures.exact

pub returns-clause-read_back : goal.returns-clause-read_back
returns-clause-read_back g c =
    let o = big_object_view c.args.object.now in
    let p : Object = record o { sections = map section_view c.as_slice.result.now; symbols = map big_symbol_view c.as_slice-2.result.now } in
    let same : p ≡ o = rw (c.as_slice.ensures.value, c.as_slice-2.ensures.value) refl in
    IfOk-weaker c.write_form.result (λ bytes. IsObjectOf Big bytes.items p) (λ bytes. IsObjectOf Big bytes.items o) (λ bytes held. subst (λ (q : Object). IsObjectOf Big bytes.items q) same held) c.write_form.ensures.read_back

pub returns-clause-early : goal.returns-clause-early
returns-clause-early g c =
    let o = big_object_view c.args.object.now in
    let p : Object = record o { sections = map section_view c.as_slice.result.now; symbols = map big_symbol_view c.as_slice-2.result.now } in
    let same : p ≡ o = rw (c.as_slice.ensures.value, c.as_slice-2.ensures.value) refl in
    λ fault first. c.write_form.ensures.early fault (subst (λ (q : Object). first_standing (name_tests q) ≡ Some fault) (sym same) first)
