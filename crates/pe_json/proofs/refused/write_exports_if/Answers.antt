use Rattle.pe_json.specs.Listed.{more}
use Rattle.pe_json.specs.Refused.{exports_if}
use Rattle.pe_json.proofs.Objects.{adds_none}
use Rattle.pe_json.proofs.refused.write_exports_if.Goals as goal

pub returns-in-Some : goal.returns-in-Some
unfolding exports_if
returns-in-Some g c = rw c.in-Some.is c.write_export_table.ensures

pub returns-in_default : goal.returns-in_default
unfolding exports_if more
returns-in_default g c = rw c.in_default.is (adds_none c.requires.ready)
