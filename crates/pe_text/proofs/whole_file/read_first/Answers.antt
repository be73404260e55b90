use Rattle.std.proofs.Common.{arith, [], sym, ◌∙◌, append-nil}
use Rattle.pe_text.proofs.whole_file.read_first.Goals as goal

pub returns-in_default-clause-piece : goal.returns-in_default-clause-piece
returns-in_default-clause-piece g c = ([], c.in_default.ensures.given ∙ sym (append-nil _), omega arith, c.in_default.ensures.failures)
