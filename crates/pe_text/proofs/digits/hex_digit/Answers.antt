use Rattle.pe_text.proofs.Widths.{glyphs}
use Rattle.pe_text.proofs.digits.hex_digit.Goals as goal

pub returns : goal.returns
returns c = glyphs c.args.digit c.requires
