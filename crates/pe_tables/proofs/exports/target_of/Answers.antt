use Rattle.std.proofs.Common.{rules}
use Rattle.pe_tables.proofs.exports.target_of.Goals as goal

pub returns-then-is_forwarder : goal.returns-then-is_forwarder
returns-then-is_forwarder c = search rules
