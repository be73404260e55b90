use Rattle.pe_imphash.specs.Oleaut32.{oleaut32_names_6}
use Rattle.pe_imphash.proofs.oleaut32.oleaut32_name_6.Goals as goal

pub returns : goal.returns
unfolding oleaut32_names_6
returns c = c.name_among.ensures
