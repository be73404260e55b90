use Rattle.pe_view.proofs.Zeros.{text_part}
use Rattle.pe_view.proofs.laws.texts_are_parts.Goals as goal

pub returns : goal.returns
returns c = text_part
