use Rattle.std.proofs.Common.{◌∙◌, sym, ap}
use Rattle.std.specs.Prelude.{length}
use Rattle.coff_read.specs.Records.{Object}
use Rattle.coff_read.proofs.PlainForm.{same_object}
use Rattle.coff_read.proofs.either_object.EitherObject.symbol_count.Goals as goal

pub returns-in-Plain : goal.returns-in-Plain
returns-in-Plain c = rw c.in-Plain.is (c.symbol_count.ensures ∙ ap (λ (o : Object). length o.symbols) (sym (same_object _)))
