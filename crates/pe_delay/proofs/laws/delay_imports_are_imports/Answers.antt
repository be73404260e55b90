use Rattle.pe_delay.proofs.AsImports.{as_imports}
use Rattle.pe_delay.proofs.laws.delay_imports_are_imports.Goals as goal

pub returns : goal.returns
returns c = as_imports
