use Rattle.std.proofs.Common.{refl, codes}
use Rattle.std.specs.Fmt.{digits}
use Rattle.json.specs.Print.{escape_byte}
use Rattle.pe_text.proofs.Adding.{◌then◌}
use Rattle.pe_json.specs.JsonText.{member}
use Rattle.pe_json.specs.Listed.{more}
use Rattle.pe_json.proofs.Objects.{named, ended}
use Rattle.coff_archive_json.proofs.line.begin.Goals as goal

pub returns : goal.returns
unfolding member more escape_byte digits
returns g c = c.text.ensures then ended (rw (named _ (codes ",") (codes "archive") _ _ _ refl refl) at c.write_name.ensures)
