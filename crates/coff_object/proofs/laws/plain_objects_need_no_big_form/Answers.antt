use Rattle.coff_object.proofs.NeededForm.{plain_suffices}
use Rattle.coff_object.proofs.laws.plain_objects_need_no_big_form.Goals as goal

pub returns : goal.returns
returns c = plain_suffices
