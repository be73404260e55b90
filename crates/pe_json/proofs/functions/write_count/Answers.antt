use Rattle.json.specs.Print.{escape_byte}
use Rattle.pe_json.specs.JsonText.{member}
use Rattle.pe_json.specs.Listed.{more}
use Rattle.pe_json.proofs.Objects.{adds_none, ended}
use Rattle.pe_json.proofs.functions.write_count.Goals as goal

pub returns : goal.returns
unfolding more member escape_byte
returns g c = rw c.in-Some.is (ended c.write_number.ensures)

pub returns-in_default : goal.returns-in_default
unfolding more
returns-in_default g c = rw c.in_default.is (adds_none c.requires)
