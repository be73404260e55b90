use Rattle.std.proofs.Common.{refl, codes}
use Rattle.json.specs.Print.{escape_byte}
use Rattle.pe_json.specs.Listed.{more}
use Rattle.pe_json.specs.Sections.{name_members}
use Rattle.pe_json.proofs.Objects.{named, ended}
use Rattle.pe_json.proofs.sections.write_long.Goals as goal

pub returns : goal.returns
unfolding name_members more escape_byte
returns g c = ended (rw (named _ (codes ",") (codes "name") _ _ _ refl refl) at c.write_name.ensures)
