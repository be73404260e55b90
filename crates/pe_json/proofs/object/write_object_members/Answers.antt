use Rattle.json.specs.Print.{escape_byte}
use Rattle.pe_text.proofs.Adding.{◌then◌}
use Rattle.pe_json.specs.JsonText.{member}
use Rattle.pe_json.specs.Listed.{more}
use Rattle.pe_json.specs.ObjectLine.{object_members}
use Rattle.pe_json.proofs.Objects.{ended}
use Rattle.pe_json.proofs.object.write_object_members.Goals as goal

pub returns : goal.returns
unfolding object_members more member escape_byte
returns g c =
    let format = rw (c.format_member.ensures, c.is_big.ensures) at c.text.ensures in
    format then ((c.text-2.ensures then c.write_header.ensures) then ((c.text-3.ensures then c.write_sections.ensures) then ended (c.text-4.ensures then c.write_symbols.ensures)))
