-- None of its sections and symbols has a fault.
use Rattle.coff_read.specs.ObjectFile.{file_of}
use Rattle.coff_read.proofs.FormTable.{plain_stands}
use Rattle.coff_read.proofs.WholeTable.{table_stands}
use Rattle.coff_read.proofs.file.ObjectFile.read.Goals as goal

pub read_sections-requires-clause-none : goal.read_sections-requires-clause-none
read_sections-requires-clause-none g c = (table_stands (file_of c.args.self.now) c.args.self.now.accepted).sections

pub read_symbols-requires-clause-none : goal.read_symbols-requires-clause-none
read_symbols-requires-clause-none g c = (plain_stands (file_of c.args.self.now) c.args.self.now.accepted).symbols
