use Rattle.pe_json.proofs.Objects.{adds_none, items_none}
use Rattle.pe_json.proofs.exports.write_named.Goals as goal

pub returns-in-None-clause-adds : goal.returns-in-None-clause-adds
returns-in-None-clause-adds g c = rw (c.in-None.is, items_none) (adds_none c.requires)

pub returns-in-Some-clause-adds : goal.returns-in-Some-clause-adds
returns-in-Some-clause-adds g c = rw c.in-Some.is c.write_export.ensures
