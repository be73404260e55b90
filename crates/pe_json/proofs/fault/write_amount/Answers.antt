use Rattle.pe_text.proofs.Adding.{◌then◌}
use Rattle.pe_json.specs.JsonText.{member}
use Rattle.pe_json.proofs.fault.write_amount.Goals as goal

pub returns : goal.returns
unfolding member
returns g c = (rw c.as_bytes.ensures.value at c.write_quoted.ensures) then c.text.ensures then c.decimal.ensures
