use Rattle.std.proofs.Common.{rules}
use Rattle.pe_head.proofs.headers.row_offset.Goals as goal

pub returns : goal.returns
returns c = search rules
