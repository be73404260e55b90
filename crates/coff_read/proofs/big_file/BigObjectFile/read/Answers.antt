-- None of its sections and symbols has a fault.
use Rattle.coff_read.specs.BigObjectFile.{big_file_of}
use Rattle.coff_read.specs.Forms.{Big}
use Rattle.coff_read.proofs.FormTable.{form_stands}
use Rattle.coff_read.proofs.big_file.BigObjectFile.read.Goals as goal

pub read_sections-requires-clause-none : goal.read_sections-requires-clause-none
read_sections-requires-clause-none g c = (form_stands Big (big_file_of c.args.self.now) c.args.self.now.accepted).sections

pub read_big_symbols-requires-clause-none : goal.read_big_symbols-requires-clause-none
read_big_symbols-requires-clause-none g c = (form_stands Big (big_file_of c.args.self.now) c.args.self.now.accepted).symbols
