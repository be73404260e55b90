use Rattle.pe_json.proofs.Utf16Texts.{one_shown}
use Rattle.pe_json.proofs.utf16.write_decoded.Goals as goal

pub returns : goal.returns
returns g c = rw (one_shown c.args.character c.ranges.character.0) c.write_character.ensures
