use Rattle.pe_tables.proofs.ExportPlaces.{entry-exports, unnumbered-exports}
use Rattle.pe_tables.proofs.laws.entries_export.Goals as goal

pub returns-clause-entry : goal.returns-clause-entry
returns-clause-entry c = entry-exports

pub returns-clause-none : goal.returns-clause-none
returns-clause-none c = unnumbered-exports
