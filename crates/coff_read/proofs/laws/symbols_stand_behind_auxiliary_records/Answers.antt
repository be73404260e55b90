use Rattle.coff_read.proofs.RecordPlaces.{symbols_begin}
use Rattle.coff_read.proofs.laws.symbols_stand_behind_auxiliary_records.Goals as goal

pub returns : goal.returns
returns c = symbols_begin
