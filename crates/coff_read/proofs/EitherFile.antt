-- An object's file of either form has none of the faults of its form.
use Rattle.std.proofs.Common.{◌≡◌, ◌∙◌, None, ap}
use Rattle.pe_view.specs.Faults.{first_standing}
use Rattle.coff_read.specs.EitherObject.{form_of, file_of}
use Rattle.coff_read.specs.FormFaults.{object_tests}
use Rattle.coff_read.specs.ObjectFile as plain
use Rattle.coff_read.specs.declared.either_object.EitherObject.{EitherObject}
use Rattle.coff_read.specs.declared.either_object.EitherObject.TheVariants as code
use Rattle.coff_read.proofs.PlainForm.{same_tests}

pub accepted : (object : EitherObject) → first_standing (object_tests (form_of object) (file_of object)) ≡ None
accepted (code.Plain object) = ap first_standing (same_tests (plain.file_of object)) ∙ object.accepted
accepted (code.Big object) = object.accepted
