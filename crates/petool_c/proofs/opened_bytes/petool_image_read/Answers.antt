use Rattle.std.proofs.Common.{ℕ, List, Option, subst, length}
use Rattle.pe_records_c.specs.Images.{IsBytesOf}
use Rattle.petool_c.proofs.Taken.{file_taken}
use Rattle.petool_c.proofs.opened_bytes.petool_image_read.Goals as goal

pub returns-in-Some-clause-exact : goal.returns-in-Some-clause-exact
returns-in-Some-clause-exact c = subst (λ (f : Option (List ℕ)). IsBytesOf f c.args.rva (length c.args.buffer.now) c.args.buffer.now c.tell_bytes-answer.new.buffer c.tell_bytes-answer.result)
    (file_taken _ _ _ _ _ c.in-Some.ensures.image c.replace.ensures.value c.deref.ensures c.deref-in-Some.ensures) c.tell_bytes-answer.ensures.read
