use Rattle.std.proofs.Common.{rules}
use Rattle.pe_head.proofs.fields.Fields.directory.Goals as goal

pub returns : goal.returns
returns c = search rules
