use Rattle.pe_set.proofs.Errors.{of_names, of_files, of_places, of_imports}
use Rattle.pe_set.proofs.laws.errors_count_class_by_class.Goals as goal

pub returns-clause-names : goal.returns-clause-names
returns-clause-names c = of_names

pub returns-clause-files : goal.returns-clause-files
returns-clause-files c = of_files

pub returns-clause-places : goal.returns-clause-places
returns-clause-places c = of_places

pub returns-clause-imports : goal.returns-clause-imports
returns-clause-imports c = of_imports
