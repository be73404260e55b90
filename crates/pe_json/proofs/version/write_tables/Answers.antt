use Rattle.json.specs.Print.{escape_byte}
use Rattle.pe_text.proofs.Adding.{◌then◌}
use Rattle.pe_json.specs.JsonText.{member, list}
use Rattle.pe_json.specs.Listed.{more}
use Rattle.pe_json.specs.VersionRows.{tables_member}
use Rattle.pe_json.proofs.Objects.{ended}
use Rattle.pe_json.proofs.version.write_tables.Goals as goal

pub returns : goal.returns
unfolding tables_member more member list escape_byte
returns g c = ended (c.text.ensures then ((rw c.version_tables.ensures at c.write_each_table.ensures) then c.text-2.ensures))
