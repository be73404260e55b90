use Rattle.std.proofs.Common.{◌+◌, arith}
use Rattle.pe_unwind.specs.Operations.{slots_read}
use Rattle.pe_unwind.proofs.Slots.{take_all}
use Rattle.pe_unwind.proofs.laws.operations_take_all_slots.Goals as goal

pub returns : goal.returns
returns c = λ i u os is. take_all i u.version (slots_read i u) 0 (u.rva + 4) os (omega arith) is
