use Rattle.std.proofs.Common.{rules}
use Rattle.pe_records_c.proofs.moved.moved_record.Goals as goal

pub returns : goal.returns
returns c = search rules
