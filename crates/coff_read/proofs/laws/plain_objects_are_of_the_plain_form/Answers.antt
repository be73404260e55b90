use Rattle.coff_read.proofs.PlainForm.{is_plain}
use Rattle.coff_read.proofs.laws.plain_objects_are_of_the_plain_form.Goals as goal

pub returns : goal.returns
returns c = is_plain
