-- What both forms are written by, at the plain form.
use Rattle.std.proofs.Common.{◌≡◌, ℕ, List, Some, refl, sym, subst, false}
use Rattle.std.specs.Prelude.{map}
use Rattle.std.proofs.lemmas.Result.{IfOk-weaker}
use Rattle.pe_view.specs.Faults.{AnswersOrWants, Test, first_standing}
use Rattle.coff_read.specs.FormFaults as form_faults
use Rattle.coff_read.specs.ObjectFaults.{IsObjectOf}
use Rattle.coff_read.specs.ObjectView.{section_view, symbol_view, object_view}
use Rattle.coff_read.specs.Records.{Object}
use Rattle.coff_object.specs.FormWriteFaults as form
use Rattle.coff_object.specs.FormWritten as written
use Rattle.coff_object.specs.WriteFaults.{name_tests, write_tests}
use Rattle.coff_object.proofs.PlainWritten.{same_canon, same_write_tests, plain_object}
use Rattle.coff_object.proofs.write.write_object.Goals as goal

pub returns-clause-exact : goal.returns-clause-exact
returns-clause-exact g c =
    let o = object_view c.args.object.now in
    let r = c.write_form.result in
    let p : Object = record o { sections = map section_view c.as_slice.result.now; symbols = map symbol_view c.as_slice-2.result.now } in
    let same : p ≡ o = rw (c.as_slice.ensures.value, c.as_slice-2.ensures.value) refl in
    let one = subst (λ (q : Object). AnswersOrWants (form.write_tests false q) (λ bytes. bytes.items ≡ written.canon false q) r) same c.write_form.ensures.exact in
    let two = subst (λ (tests : List Test). AnswersOrWants tests (λ bytes. bytes.items ≡ written.canon false o) r) (same_write_tests o) one in
    subst (λ (file : List ℕ). AnswersOrWants (write_tests o) (λ bytes. bytes.items ≡ file) r) (same_canon o) two

pub returns-clause-read_back : goal.returns-clause-read_back
returns-clause-read_back g c =
    let o = object_view c.args.object.now in
    let p : Object = record o { sections = map section_view c.as_slice.result.now; symbols = map symbol_view c.as_slice-2.result.now } in
    let same : p ≡ o = rw (c.as_slice.ensures.value, c.as_slice-2.ensures.value) refl in
    IfOk-weaker c.write_form.result (λ bytes. form_faults.IsObjectOf false bytes.items p) (λ bytes. IsObjectOf bytes.items o)
    (λ bytes held. plain_object bytes.items o (subst (λ (q : Object). form_faults.IsObjectOf false bytes.items q) same held)) c.write_form.ensures.read_back

pub returns-clause-early : goal.returns-clause-early
returns-clause-early g c =
    let o = object_view c.args.object.now in
    let p : Object = record o { sections = map section_view c.as_slice.result.now; symbols = map symbol_view c.as_slice-2.result.now } in
    let same : p ≡ o = rw (c.as_slice.ensures.value, c.as_slice-2.ensures.value) refl in
    λ fault first. c.write_form.ensures.early fault (subst (λ (q : Object). first_standing (name_tests q) ≡ Some fault) (sym same) first)
