use Rattle.pe_set.proofs.DelayedBases.{delayed_at, delayed_bindings_at}
use Rattle.pe_set.proofs.laws.bases_change_no_delayed_binding.Goals as goal

pub returns-clause-images : goal.returns-clause-images
returns-clause-images c = delayed_at

pub returns-clause-bindings : goal.returns-clause-bindings
returns-clause-bindings c = delayed_bindings_at
