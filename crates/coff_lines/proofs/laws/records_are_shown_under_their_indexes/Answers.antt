use Rattle.coff_lines.proofs.ObjectPlaces.{plain_records_shown}
use Rattle.coff_lines.proofs.laws.records_are_shown_under_their_indexes.Goals as goal

pub returns : goal.returns
returns c = plain_records_shown
