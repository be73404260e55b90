use Rattle.pe_tables.proofs.FewExports.{few_ordinals, few_names}
use Rattle.pe_tables.proofs.laws.exports_are_few.Goals as goal

pub returns-clause-ordinals : goal.returns-clause-ordinals
returns-clause-ordinals c = few_ordinals

pub returns-clause-names : goal.returns-clause-names
returns-clause-names c = few_names
