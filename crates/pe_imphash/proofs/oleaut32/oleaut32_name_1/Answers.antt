use Rattle.pe_imphash.specs.Oleaut32.{oleaut32_names_1}
use Rattle.pe_imphash.proofs.oleaut32.oleaut32_name_1.Goals as goal

pub returns : goal.returns
unfolding oleaut32_names_1
returns c = c.name_among.ensures
