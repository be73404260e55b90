use Rattle.std.proofs.Common.{refl, codes}
use Rattle.json.specs.Print.{escape_byte}
use Rattle.pe_text.proofs.Adding.{◌then◌}
use Rattle.pe_json.specs.JsonText.{member}
use Rattle.pe_json.specs.Listed.{more}
use Rattle.pe_json.proofs.Objects.{named, ended}
use Rattle.coff_archive_json.specs.ImportMembers.{text_members}
use Rattle.coff_archive_json.proofs.import.write_texts.Goals as goal

pub returns : goal.returns
unfolding text_members more member escape_byte
returns g c =
    let symbol = rw (named _ (codes ",") (codes "symbol") _ _ _ refl refl) at c.write_name.ensures in
    let dll = rw (named _ (codes ",") (codes "module") _ _ _ refl refl) at c.write_name-2.ensures in
    c.write_number.ensures then (symbol then ended dll)
