use Rattle.std.proofs.Common.{rules}
use Rattle.pe_head.proofs.optional.Magic.fixed_size.Goals as goal

pub returns-in-Pe32Plus : goal.returns-in-Pe32Plus
returns-in-Pe32Plus c = search rules
