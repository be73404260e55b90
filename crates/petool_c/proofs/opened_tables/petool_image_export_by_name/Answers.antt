use Rattle.std.proofs.Common.{ℕ, List, Option, subst}
use Rattle.pe_tables.specs.Key.{Name}
use Rattle.pe_records_c.specs.Images.{TellsTargetOf}
use Rattle.petool_c.proofs.Taken.{file_taken}
use Rattle.petool_c.proofs.opened_tables.petool_image_export_by_name.Goals as goal

pub returns-in-Some-clause-exact : goal.returns-in-Some-clause-exact
returns-in-Some-clause-exact c = subst (λ (f : Option (List ℕ)). TellsTargetOf f (Name c.args.name.now) c.args.target.now c.tell_name-answer.new.target c.tell_name-answer.result)
    (file_taken _ _ _ _ _ c.in-Some.ensures.image c.replace.ensures.value c.deref.ensures c.deref-in-Some.ensures) c.tell_name-answer.ensures.target
