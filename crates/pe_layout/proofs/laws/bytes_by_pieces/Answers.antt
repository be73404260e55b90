use Rattle.std.proofs.Common.{length}
use Rattle.pe_view.specs.FirstStanding.{none-append}
use Rattle.pe_head.specs.Head.{head_of}
use Rattle.pe_head.specs.HeaderFaults.{head_tests}
use Rattle.pe_layout.specs.SectionFaults.{placing_tests}
use Rattle.pe_layout.proofs.Pieces.{laid_out}
use Rattle.pe_layout.proofs.laws.bytes_by_pieces.Goals as goal

pub returns : goal.returns
returns c = λ image file none. laid_out image (head_of file) file (none-append (head_tests image file) (placing_tests image (head_of file) (length file)) none).1
