use Rattle.std.proofs.Common.{rules}
use Rattle.pe_records_c.proofs.import.ImportRowRowImport.of.Goals as goal

pub returns-in-Name : goal.returns-in-Name
returns-in-Name c = search rules
