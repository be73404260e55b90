use Rattle.coff_object.proofs.ReadBack.{read_back}
use Rattle.coff_object.proofs.laws.written_is_read_back_in_each_form.Goals as goal

pub returns : goal.returns
returns c = read_back
