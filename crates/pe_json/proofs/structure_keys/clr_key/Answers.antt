use Rattle.pe_json.specs.StructureKeys.{clr_keys}
use Rattle.pe_json.proofs.structure_keys.clr_key.Goals as goal

pub returns : goal.returns
unfolding clr_keys
returns c = c.name_among.ensures
