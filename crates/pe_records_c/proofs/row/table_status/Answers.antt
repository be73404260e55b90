use Rattle.std.proofs.Common.{rules}
use Rattle.pe_records_c.proofs.row.table_status.Goals as goal

pub returns-else-items-rows : goal.returns-else-items-rows
returns-else-items-rows c = search rules
