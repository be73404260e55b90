use Rattle.pe_space.proofs.WindowBytes.{as_many, each_byte}
use Rattle.pe_space.proofs.laws.windows_have_each_byte.Goals as goal

pub returns-clause-count : goal.returns-clause-count
returns-clause-count c = as_many

pub returns-clause-each : goal.returns-clause-each
returns-clause-each c = each_byte
