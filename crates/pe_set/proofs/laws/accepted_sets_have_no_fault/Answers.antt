use Rattle.pe_set.specs.Set.{modules_of}
use Rattle.pe_set.specs.SetErrors.{imports_errors}
use Rattle.pe_set.proofs.Faultless.{classes, no_error}
use Rattle.pe_set.proofs.laws.accepted_sets_have_no_fault.Goals as goal

pub returns-clause-names : goal.returns-clause-names
returns-clause-names c = λ policy es none. (classes policy es none).names

pub returns-clause-files : goal.returns-clause-files
returns-clause-files c = λ policy es none. (classes policy es none).files

pub returns-clause-places : goal.returns-clause-places
returns-clause-places c = λ policy es none. (classes policy es none).places

pub returns-clause-imports : goal.returns-clause-imports
returns-clause-imports c = λ policy es none. no_error (imports_errors policy (modules_of es)) (classes policy es none).imports
