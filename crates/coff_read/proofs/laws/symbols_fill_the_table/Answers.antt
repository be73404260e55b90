use Rattle.coff_read.proofs.WholeTable.{fills_table}
use Rattle.coff_read.proofs.laws.symbols_fill_the_table.Goals as goal

pub returns-clause-whole : goal.returns-clause-whole
returns-clause-whole c file none = (fills_table file none).records

pub returns-clause-few : goal.returns-clause-few
returns-clause-few c file none = (fills_table file none).few
