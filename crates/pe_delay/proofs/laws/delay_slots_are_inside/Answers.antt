use Rattle.pe_delay.proofs.Naming.{are_few, are_inside}
use Rattle.pe_delay.proofs.laws.delay_slots_are_inside.Goals as goal

pub returns-clause-inside : goal.returns-clause-inside
returns-clause-inside c = are_inside

pub returns-clause-few : goal.returns-clause-few
returns-clause-few c = are_few
