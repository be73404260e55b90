use Rattle.pe_json.proofs.Objects.{adds_none, items_none}
use Rattle.pe_json.proofs.fault.write_value.Goals as goal

pub returns-in-Nothing-clause-adds : goal.returns-in-Nothing-clause-adds
returns-in-Nothing-clause-adds g c = rw (c.in-Nothing.is, items_none) (adds_none c.requires)

pub returns-in-Count-clause-adds : goal.returns-in-Count-clause-adds
returns-in-Count-clause-adds g c = rw c.in-Count.is c.write_item.ensures

pub returns-in-Place-clause-adds : goal.returns-in-Place-clause-adds
returns-in-Place-clause-adds g c = rw c.in-Place.is c.write_item-in-Place.ensures
