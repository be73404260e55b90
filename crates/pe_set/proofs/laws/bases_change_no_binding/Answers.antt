use Rattle.pe_set.proofs.Bases.{images_at, bindings_at}
use Rattle.pe_set.proofs.laws.bases_change_no_binding.Goals as goal

pub returns-clause-images : goal.returns-clause-images
returns-clause-images c = images_at

pub returns-clause-bindings : goal.returns-clause-bindings
returns-clause-bindings c = bindings_at
