-- A file that is not read as a big object has the faults of a plain one.
use Rattle.std.proofs.Common.{◌≡◌, ◌∙◌, Bool, false, None, Some, ap, sym, subst}
use Rattle.std.proofs.lemmas.Result.{err_from_is_err_and}
use Rattle.pe_view.specs.Faults.{first_standing}
use Rattle.coff_read.specs.EitherObject.{form_in}
use Rattle.coff_read.specs.FormFaults.{object_tests}
use Rattle.coff_read.proofs.PlainForm.{same_tests}
use Rattle.coff_read.proofs.either_object.EitherObject.new.Goals as goal

pub returns-in_err-new-2 : goal.returns-in_err-new-2
returns-in_err-new-2 c =
    let file = c.args.file.now in
    let plain : form_in file ≡ false = sym (c.is_read_as_big.ensures ∙ ap form_in c.new.ensures) ∙ c.if-is_read_as_big.false in
    let y = c.in_err-new-2.field-0.0 in
    let p = err_from_is_err_and c.from_residual-in_err-new-2.result c.from_residual-in_err-new-2.ensures.1 in
    rw (p.1, p.2) (subst (λ (big : Bool). first_standing (object_tests big file) ≡ Some y) (sym plain) (ap first_standing (same_tests file) ∙ c.in_err-new-2.ensures))

pub returns : goal.returns
returns c =
    let file = c.args.file.now in
    let plain : form_in file ≡ false = sym (c.is_read_as_big.ensures ∙ ap form_in c.new.ensures) ∙ c.if-is_read_as_big.false in (
      subst (λ (big : Bool). first_standing (object_tests big file) ≡ None) (sym plain) (ap first_standing (same_tests file) ∙ c.in_ok-new-2.ensures.0),
      (sym plain, c.in_ok-new-2.ensures.1),
    )
