use Rattle.json.specs.Print.{escape_byte}
use Rattle.pe_text.proofs.Adding.{◌then◌}
use Rattle.pe_json.specs.JsonText.{member}
use Rattle.pe_json.specs.Listed.{more}
use Rattle.pe_json.proofs.Objects.{ended}
use Rattle.coff_archive_json.specs.ImportMembers.{type_members}
use Rattle.coff_archive_json.proofs.import.write_types.Goals as goal

pub returns : goal.returns
unfolding type_members more member escape_byte
returns g c =
    let kind = rw c.kind_name.ensures at c.write_quoted.ensures in
    c.write_number.ensures then ((c.text.ensures then kind) then ended c.write_number-2.ensures)
