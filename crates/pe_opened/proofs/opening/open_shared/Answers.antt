-- An opened image has no fault, and so none of its headers and sections.
use Rattle.pe_opened.proofs.Kept.{laid_out}
use Rattle.pe_opened.proofs.opening.open_shared.Goals as goal

pub returns-in_err-new-clause-memory : goal.returns-in_err-new-clause-memory
returns-in_err-new-clause-memory c = λ _. laid_out c.args.file.now c.in_ok-opened.ensures.exact.0

pub returns-in_err-owner-clause-memory : goal.returns-in_err-owner-clause-memory
returns-in_err-owner-clause-memory c = λ _. laid_out c.args.file.now c.in_ok-opened.ensures.exact.0
