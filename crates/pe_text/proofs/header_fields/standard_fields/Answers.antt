use Rattle.std.proofs.Common.{rules}
use Rattle.pe_text.proofs.header_fields.standard_fields.Goals as goal

pub returns : goal.returns
returns c = search rules
