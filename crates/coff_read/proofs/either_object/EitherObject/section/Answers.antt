use Rattle.coff_read.proofs.either_object.EitherObject.section.Goals as goal

pub returns-in-Plain : goal.returns-in-Plain
returns-in-Plain c = rw c.in-Plain.is c.section.ensures
