use Rattle.std.proofs.Common.{codes}
use Rattle.json.specs.Print.{escape_byte}
use Rattle.pe_json.specs.JsonText.{member, number}
use Rattle.pe_json.proofs.Objects.{also, objects}
use Rattle.pe_json.proofs.object_sections.write_section.Goals as goal

pub returns : goal.returns
unfolding member escape_byte
returns g c =
    objects (number (codes "number") c.args.number) _ c.write_number.ensures (also _ _ c.write_members.ensures (also _ _ c.write_alignment.ensures c.write_relocation_list.ensures)) c.text.ensures
