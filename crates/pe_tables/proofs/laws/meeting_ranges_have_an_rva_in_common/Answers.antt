use Rattle.pe_ranges.proofs.Meeting.{meets-common}
use Rattle.pe_tables.proofs.laws.meeting_ranges_have_an_rva_in_common.Goals as goal

pub returns : goal.returns
returns c = λ start len ranges some long. meets-common start len some ranges long
