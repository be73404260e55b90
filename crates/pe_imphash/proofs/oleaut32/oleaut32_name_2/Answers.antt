use Rattle.pe_imphash.specs.Oleaut32.{oleaut32_names_2}
use Rattle.pe_imphash.proofs.oleaut32.oleaut32_name_2.Goals as goal

pub returns : goal.returns
unfolding oleaut32_names_2
returns c = c.name_among.ensures
