use Rattle.pe_json.specs.StructureKeys.{load_keys}
use Rattle.pe_json.proofs.structure_keys.load_key.Goals as goal

pub returns : goal.returns
unfolding load_keys
returns c = c.name_among.ensures
