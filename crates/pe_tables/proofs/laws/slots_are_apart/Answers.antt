use Rattle.pe_tables.proofs.Slots.{imports-fine}
use Rattle.pe_tables.proofs.laws.slots_are_apart.Goals as goal

pub returns-clause-inside : goal.returns-clause-inside
returns-clause-inside c = λ i none. (imports-fine i (i.directory 1) none).inside

pub returns-clause-apart : goal.returns-clause-apart
returns-clause-apart c = λ i none. (imports-fine i (i.directory 1) none).apart

pub returns-clause-few : goal.returns-clause-few
returns-clause-few c = λ i none. (imports-fine i (i.directory 1) none).few
