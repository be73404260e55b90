use Rattle.std.proofs.Common.{rules}
use Rattle.pe_tables.proofs.exports.read_name.Goals as goal

pub returns-then-entry-table : goal.returns-then-entry-table
returns-then-entry-table c = search rules

pub returns : goal.returns
returns c = search rules
