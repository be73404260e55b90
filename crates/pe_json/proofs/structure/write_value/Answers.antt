use Rattle.pe_json.proofs.structure.write_value.Goals as goal

pub returns-in-Two : goal.returns-in-Two
returns-in-Two g c = rw c.in-Two.is c.decimal.ensures

pub returns-in-Four : goal.returns-in-Four
returns-in-Four g c = rw c.in-Four.is c.decimal-in-Four.ensures

pub returns-in-Address : goal.returns-in-Address
returns-in-Address g c = rw c.in-Address.is c.write_wide.ensures
