use Rattle.std.proofs.Common.{refl, codes}
use Rattle.json.specs.Print.{escape_byte}
use Rattle.pe_text.proofs.Adding.{◌then◌}
use Rattle.pe_json.specs.Listed.{more}
use Rattle.pe_json.specs.Line.{first_members}
use Rattle.pe_json.proofs.Objects.{named, ended}
use Rattle.pe_json.proofs.beginning.write_first.Goals as goal

pub returns : goal.returns
unfolding first_members more escape_byte
returns g c =
    let name = rw (named _ (codes ",") (codes "file") _ _ _ refl refl) at c.write_name.ensures in
    name then ended (rw c.accepted_member.ensures at c.text.ensures)
