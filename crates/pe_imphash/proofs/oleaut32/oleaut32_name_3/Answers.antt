use Rattle.pe_imphash.specs.Oleaut32.{oleaut32_names_3}
use Rattle.pe_imphash.proofs.oleaut32.oleaut32_name_3.Goals as goal

pub returns : goal.returns
unfolding oleaut32_names_3
returns c = c.name_among.ensures
