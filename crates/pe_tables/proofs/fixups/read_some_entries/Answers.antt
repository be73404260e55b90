use Rattle.std.proofs.Common.{rules}
use Rattle.pe_tables.proofs.fixups.read_some_entries.Goals as goal

pub read_entries-requires-clause-bytes : goal.read_entries-requires-clause-bytes
read_entries-requires-clause-bytes c = search rules
