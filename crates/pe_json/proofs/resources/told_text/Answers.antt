use Rattle.std.proofs.Common.{◌∙◌, Some, ap}
use Rattle.std.specs.Prelude.{option_map}
use Rattle.std.proofs.lemmas.List.{take_min}
use Rattle.pe_json.specs.ResourceRows.{told_units}
use Rattle.pe_json.proofs.resources.told_text.Goals as goal

pub returns-in-Some : goal.returns-in-Some
returns-in-Some c = rw c.min-len.ensures (ap Some (take_min 512 c.in-Some.units.now) ∙ ap (option_map told_units) c.in-Some.ensures)
