use Rattle.std.proofs.Common.{◌∙◌, sym, ap}
use Rattle.coff_read.specs.BigLeft.{indexed}
use Rattle.coff_read.specs.Forms.{Plain}
use Rattle.coff_read.proofs.PlainForm.{same_symbols}
use Rattle.coff_read.proofs.either_object.EitherObject.each_symbol.Goals as goal

pub returns-in-Plain : goal.returns-in-Plain
returns-in-Plain g c = rw c.in-Plain.is (c.each_symbol.ensures ∙ ap (indexed Plain _) (sym (same_symbols _)))
