use Rattle.std.proofs.Common.{ap, Err}
use Rattle.pe_records_c.proofs.Telling.{done_told, refusal_told}
use Rattle.petool_c.proofs.opened.petool_image_open.Goals as goal

pub returns-in-Ok-clause-faults : goal.returns-in-Ok-clause-faults
returns-in-Ok-clause-faults c = done_told _ _ _ c.in-Ok.ensures.exact.0

pub returns-in-Err-clause-faults : goal.returns-in-Err-clause-faults
returns-in-Err-clause-faults c = refusal_told _ _ c.in-Err.refusal _ _ _ c.in-Err.ensures.exact (λ e. c.in-Err.ensures.memory (ap Err e)) c.refuse_for.ensures
