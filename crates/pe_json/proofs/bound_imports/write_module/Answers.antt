use Rattle.std.proofs.Common.{refl, codes}
use Rattle.json.specs.Print.{escape_byte}
use Rattle.pe_json.specs.BoundRows.{module_if}
use Rattle.pe_json.specs.Listed.{more}
use Rattle.pe_json.proofs.Objects.{adds_none, ended, named}
use Rattle.pe_json.proofs.bound_imports.write_module.Goals as goal

pub returns : goal.returns
unfolding module_if more escape_byte
returns g c = rw c.in-Some.is (ended (rw (named _ (codes ",") (codes "module") _ _ _ refl refl) at c.write_name.ensures))

pub returns-in_default : goal.returns-in_default
unfolding module_if more
returns-in_default g c = rw c.in_default.is (adds_none c.requires)
