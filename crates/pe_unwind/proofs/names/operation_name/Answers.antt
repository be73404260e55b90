use Rattle.std.proofs.Common.{sym}
use Rattle.pe_unwind.specs.OperationNames.{operation_names}
use Rattle.pe_unwind.proofs.names.operation_name.Goals as goal

pub returns : goal.returns
unfolding operation_names
returns c = rw (sym c.from.ensures) c.name_among.ensures
