use Rattle.std.proofs.Common.{ℕ, List, Option, subst}
use Rattle.pe_records_c.specs.Images.{IsRebaseOf}
use Rattle.petool_c.proofs.Taken.{file_taken}
use Rattle.petool_c.proofs.opened_bytes.petool_image_rebase.Goals as goal

pub returns-in-Some-clause-exact : goal.returns-in-Some-clause-exact
returns-in-Some-clause-exact c =
    let told = c.tell_rebased-answer.ensures in
    subst (λ (f : Option (List ℕ)). IsRebaseOf f c.args.base c.args.buffer.now c.tell_rebased-answer.new.buffer c.args.fault.now c.tell_rebased-answer.new.fault c.tell_rebased-answer.result)
    (file_taken _ _ _ _ _ c.in-Some.ensures.image c.replace.ensures.value c.deref.ensures c.deref-in-Some.ensures)
    (record {
      argument = told.argument;
      same_length = told.same_length;
      faults = told.faults;
      accepted = told.accepted;
      done = told.done;
      kept = told.kept;
      fault_kept = told.fault_kept;
    })
