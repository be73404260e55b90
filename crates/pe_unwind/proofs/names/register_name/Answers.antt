use Rattle.std.proofs.Common.{sym}
use Rattle.pe_unwind.specs.OperationNames.{register_names}
use Rattle.pe_unwind.proofs.names.register_name.Goals as goal

pub returns : goal.returns
unfolding register_names
returns c = rw (sym c.from.ensures) c.name_among.ensures
