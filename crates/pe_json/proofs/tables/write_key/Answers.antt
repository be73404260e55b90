use Rattle.std.proofs.Common.{[], refl, codes}
use Rattle.json.specs.Print.{escape_byte}
use Rattle.pe_text.proofs.Adding.{◌then◌}
use Rattle.pe_json.specs.JsonText.{member}
use Rattle.pe_json.specs.TableRows.{key_member}
use Rattle.pe_json.proofs.Objects.{named}
use Rattle.pe_json.proofs.tables.write_key.Goals as goal

pub returns-in-Ordinal : goal.returns-in-Ordinal
unfolding key_member member escape_byte
returns-in-Ordinal g c = rw c.in-Ordinal.is (c.text.ensures then c.decimal.ensures)

pub returns-in-Name : goal.returns-in-Name
unfolding key_member escape_byte
returns-in-Name g c = rw c.in-Name.is (rw (named _ [] (codes "name") _ _ _ refl refl) at c.write_name.ensures)
