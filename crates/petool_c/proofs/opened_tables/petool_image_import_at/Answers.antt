use Rattle.std.proofs.Common.{ℕ, List, Option, subst}
use Rattle.pe_records_c.specs.Images.{TellsImportOf}
use Rattle.petool_c.proofs.Taken.{file_taken}
use Rattle.petool_c.proofs.opened_tables.petool_image_import_at.Goals as goal

pub returns-in-Some-clause-exact : goal.returns-in-Some-clause-exact
returns-in-Some-clause-exact c = subst (λ (f : Option (List ℕ)). TellsImportOf f c.args.slot c.args.found.now c.tell_import-answer.new.found c.tell_import-answer.result)
    (file_taken _ _ _ _ _ c.in-Some.ensures.image c.replace.ensures.value c.deref.ensures c.deref-in-Some.ensures) c.tell_import-answer.ensures.found
