use Rattle.pe_json.specs.Listed.{more}
use Rattle.pe_json.proofs.Objects.{adds_none, also}
use Rattle.pe_json.proofs.version.write_version_data.Goals as goal

pub returns : goal.returns
returns g c = rw c.in-Some.is (also _ _ (rw c.fixed_info.ensures at c.write_fixed.ensures) c.write_tables.ensures)

pub returns-in_default : goal.returns-in_default
unfolding more
returns-in_default g c = rw c.in_default.is (adds_none c.requires)
