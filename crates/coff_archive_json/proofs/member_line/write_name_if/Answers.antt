use Rattle.std.proofs.Common.{refl, codes}
use Rattle.json.specs.Print.{escape_byte}
use Rattle.pe_json.specs.CertificateRows.{name_if}
use Rattle.pe_json.specs.Listed.{more}
use Rattle.pe_json.proofs.Objects.{named, ended, adds_none}
use Rattle.coff_archive_json.proofs.member_line.write_name_if.Goals as goal

pub returns-in-Some : goal.returns-in-Some
unfolding name_if more escape_byte
returns-in-Some g c = rw c.in-Some.is (ended (rw (named _ (codes ",") (codes "member") _ _ _ refl refl) at c.write_name.ensures))

pub returns-in_default : goal.returns-in_default
unfolding name_if more
returns-in_default g c = rw c.in_default.is (adds_none c.requires)
