use Rattle.coff_lines.proofs.ObjectPlaces.{records_shown}
use Rattle.coff_lines.proofs.laws.records_of_either_form_are_shown_under_their_indexes.Goals as goal

pub returns : goal.returns
returns c = records_shown
