use Rattle.std.proofs.Common.{codes}
use Rattle.json.specs.Print.{escape_byte}
use Rattle.pe_json.specs.JsonText.{member, number}
use Rattle.pe_json.proofs.Objects.{objects}
use Rattle.pe_json.proofs.sections.write_section.Goals as goal

pub returns : goal.returns
unfolding member escape_byte
returns g c =
    let members = rw c.section_name.ensures at c.write_members.ensures in
    objects (number (codes "index") c.args.index) _ c.write_number.ensures members c.text.ensures
