use Rattle.coff_read.proofs.StringPlaces.{string_is}
use Rattle.coff_read.proofs.laws.strings_stand_at_their_offsets.Goals as goal

pub returns : goal.returns
returns c = string_is
