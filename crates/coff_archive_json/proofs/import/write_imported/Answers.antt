use Rattle.std.proofs.Common.{refl, codes}
use Rattle.json.specs.Print.{escape_byte}
use Rattle.pe_text.proofs.Adding.{◌then◌}
use Rattle.pe_json.specs.JsonText.{member}
use Rattle.pe_json.specs.Listed.{more}
use Rattle.pe_json.proofs.Objects.{named, ended}
use Rattle.coff_archive_json.specs.ImportMembers.{imported_members}
use Rattle.coff_archive_json.proofs.import.write_imported.Goals as goal

pub returns-in-Some : goal.returns-in-Some
unfolding imported_members more member escape_byte
returns-in-Some g c =
    let name = rw (named _ (codes ",") (codes "name") _ _ _ refl refl) at c.write_name.ensures in
    rw c.in-Some.is (name then ended c.write_number.ensures)

pub returns-in-None : goal.returns-in-None
unfolding imported_members more member escape_byte
returns-in-None g c = rw c.in-None.is (ended c.write_number-in-None.ensures)
