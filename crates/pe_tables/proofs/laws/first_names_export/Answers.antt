use Rattle.pe_tables.proofs.ExportPlaces.{first-exports, unnamed-exports}
use Rattle.pe_tables.proofs.laws.first_names_export.Goals as goal

pub returns-clause-first : goal.returns-clause-first
returns-clause-first c = first-exports

pub returns-clause-none : goal.returns-clause-none
returns-clause-none c = unnamed-exports
