use Rattle.pe_parts.proofs.Packed.{packed_tables}
use Rattle.pe_parts.proofs.laws.packed_tables_are_the_files.Goals as goal

pub returns : goal.returns
returns c = packed_tables
