use Rattle.std.proofs.Common.{ℕ, List, Option, subst}
use Rattle.pe_records_c.specs.Images.{IsOffsetOf}
use Rattle.petool_c.proofs.Taken.{file_taken}
use Rattle.petool_c.proofs.opened_bytes.petool_image_locate.Goals as goal

pub returns-in-Some-clause-exact : goal.returns-in-Some-clause-exact
returns-in-Some-clause-exact c = subst (λ (f : Option (List ℕ)). IsOffsetOf f c.args.rva c.args.offset.now c.tell_offset-answer.new.offset c.tell_offset-answer.result)
    (file_taken _ _ _ _ _ c.in-Some.ensures.image c.replace.ensures.value c.deref.ensures c.deref-in-Some.ensures) c.tell_offset-answer.ensures.place
