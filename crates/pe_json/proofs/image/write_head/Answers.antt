use Rattle.json.specs.Print.{escape_byte}
use Rattle.pe_text.proofs.Adding.{◌then◌}
use Rattle.pe_json.specs.JsonText.{member}
use Rattle.pe_json.specs.Listed.{more}
use Rattle.pe_json.specs.ImageLine.{head_members}
use Rattle.pe_json.proofs.Objects.{ended}
use Rattle.pe_json.proofs.image.write_head.Goals as goal

pub returns : goal.returns
unfolding head_members more member escape_byte
returns g c =
    let format = rw c.format_member.ensures at c.text.ensures in
    let directories = rw c.as_slice.ensures.value at c.write_directories.ensures in
    let sections = rw c.as_slice-2.ensures.value at c.write_sections.ensures in
    format then (c.write_number.ensures then ((c.text-2.ensures then c.write_fields.ensures) then ((c.text-3.ensures then directories) then ended (c.text-4.ensures then sections))))
