use Rattle.std.proofs.Common.{refl, codes}
use Rattle.json.specs.Print.{escape_byte}
use Rattle.pe_text.proofs.Adding.{◌then◌}
use Rattle.pe_json.specs.JsonText.{member, hex_string}
use Rattle.pe_json.specs.Listed.{more}
use Rattle.pe_json.specs.ObjectLine.{aux_members}
use Rattle.pe_json.proofs.Objects.{ended, named}
use Rattle.pe_json.proofs.auxiliary.write_fields.Goals as goal

pub returns-in-Lines : goal.returns-in-Lines
unfolding aux_members more member escape_byte
returns-in-Lines g c = rw c.in-Lines.is (c.write_number.ensures then (ended c.write_number-in-Lines.ensures))

pub returns-in-Weak : goal.returns-in-Weak
unfolding aux_members more member escape_byte
returns-in-Weak g c = rw c.in-Weak.is (c.write_number-in-Weak.ensures then (ended c.write_number-in-Weak-2.ensures))

pub returns-in-File : goal.returns-in-File
unfolding aux_members more escape_byte member
returns-in-File g c = rw c.in-File.is (ended (rw (named _ (codes ",\"kind\":\"file\",") (codes "file_name") _ _ _ refl refl) at c.write_name.ensures))

pub returns-in-Raw : goal.returns-in-Raw
unfolding aux_members more member hex_string escape_byte
returns-in-Raw g c = rw c.in-Raw.is (ended (c.text.ensures then (c.write_digits.ensures then c.text-in-Raw.ensures)))
