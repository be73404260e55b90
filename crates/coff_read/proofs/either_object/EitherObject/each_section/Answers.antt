use Rattle.coff_read.proofs.either_object.EitherObject.each_section.Goals as goal

pub returns-in-Plain : goal.returns-in-Plain
returns-in-Plain g c = rw c.in-Plain.is c.each_section.ensures
