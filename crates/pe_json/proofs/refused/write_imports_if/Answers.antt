use Rattle.pe_json.specs.Listed.{more}
use Rattle.pe_json.specs.Refused.{imports_if}
use Rattle.pe_json.proofs.Objects.{adds_none}
use Rattle.pe_json.proofs.refused.write_imports_if.Goals as goal

pub returns-in-Some : goal.returns-in-Some
unfolding imports_if
returns-in-Some g c = rw c.in-Some.is (rw c.deref.ensures.value at c.write_import_table.ensures)

pub returns-in_default : goal.returns-in_default
unfolding imports_if more
returns-in_default g c = rw c.in_default.is (adds_none c.requires)
