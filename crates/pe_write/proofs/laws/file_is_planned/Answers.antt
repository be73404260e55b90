use Rattle.pe_write.proofs.PlanWhole.{head-planned}
use Rattle.pe_write.proofs.PlanLaws.{no_fault, lays_out}
use Rattle.pe_write.proofs.PlanRefused.{not_refused}
use Rattle.pe_write.proofs.laws.file_is_planned.Goals as goal

pub returns-clause-head : goal.returns-clause-head
returns-clause-head g c = λ fits _. head-planned c.args.plan.now fits

pub returns-clause-accepted : goal.returns-clause-accepted
returns-clause-accepted g c = λ fits none. no_fault c.args.plan.now none fits

pub returns-clause-planned : goal.returns-clause-planned
returns-clause-planned g c = λ r fits none. lays_out c.args.plan.now none fits r

pub returns-clause-exactly : goal.returns-clause-exactly
returns-clause-exactly g c = λ fits some none. not_refused c.args.plan.now fits some none
