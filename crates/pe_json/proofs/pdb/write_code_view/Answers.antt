use Rattle.std.proofs.Common.{codes}
use Rattle.json.specs.Print.{escape_byte}
use Rattle.pe_text.proofs.Adding.{◌then◌}
use Rattle.pe_json.specs.JsonText.{member, object, number, hex_string}
use Rattle.pe_json.specs.Listed.{more}
use Rattle.pe_json.specs.PdbRows.{code_view_members}
use Rattle.pe_json.proofs.Objects.{adds_none, ended, object_after}
use Rattle.pe_json.proofs.pdb.write_code_view.Goals as goal

pub returns-in-Pdb70 : goal.returns-in-Pdb70
unfolding code_view_members more member object hex_string escape_byte
returns-in-Pdb70 g c =
    let pdb = c.in-Pdb70.pdb in
    rw c.in-Pdb70.is
    (ended (object_after (codes ",\"pdb\":") (member (codes "guid_hex") (hex_string pdb.guid)) _ (c.text.ensures then (c.write_digits.ensures then c.text-in-Pdb70.ensures)) (c.write_number.ensures then c.write_path.ensures) c.text-in-Pdb70-2.ensures))

pub returns-in-Pdb20 : goal.returns-in-Pdb20
unfolding code_view_members more member object escape_byte
returns-in-Pdb20 g c =
    let pdb = c.in-Pdb20.pdb in
    rw c.in-Pdb20.is
    (ended (object_after (codes ",\"pdb\":") (number (codes "time_date_stamp") pdb.time_date_stamp) _ c.write_number-in-Pdb20.ensures (c.write_number-in-Pdb20-2.ensures then c.write_path-in-Pdb20.ensures) c.text-in-Pdb20.ensures))

pub returns-in-Other : goal.returns-in-Other
unfolding code_view_members more
returns-in-Other g c = rw c.in-Other.is (adds_none c.requires)
