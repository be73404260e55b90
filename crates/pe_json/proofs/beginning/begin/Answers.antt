use Rattle.std.specs.Fmt.{digits}
use Rattle.json.specs.Print.{escape_byte}
use Rattle.pe_text.proofs.Adding.{◌then◌}
use Rattle.pe_json.specs.JsonText.{member}
use Rattle.pe_json.proofs.beginning.begin.Goals as goal

pub returns : goal.returns
unfolding member escape_byte digits
returns g c = c.text.ensures then c.write_first.ensures
