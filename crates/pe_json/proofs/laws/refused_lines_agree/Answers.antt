use Rattle.pe_json.proofs.RefusedAlike.{same_refused_lines, same_values}
use Rattle.pe_json.proofs.laws.refused_lines_agree.Goals as goal

pub returns-clause-lines : goal.returns-clause-lines
returns-clause-lines c = same_refused_lines

pub returns-clause-values : goal.returns-clause-values
returns-clause-values c = same_values
