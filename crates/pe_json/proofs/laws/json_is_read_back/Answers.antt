use Rattle.json.proofs.Printed.Decimals.{IsNumber-decimal}
use Rattle.pe_json.proofs.ReadBack.{read_back}
use Rattle.pe_json.proofs.laws.json_is_read_back.Goals as goal

pub returns-clause-number : goal.returns-clause-number
returns-clause-number c = IsNumber-decimal

pub returns-clause-value : goal.returns-clause-value
returns-clause-value c = read_back
