use Rattle.pe_json.proofs.object.write_fields.Goals as goal

pub returns-in-Plain : goal.returns-in-Plain
returns-in-Plain g c = rw c.in-Plain.is (rw c.header.ensures at c.write_coff.ensures)

pub returns-in-Big : goal.returns-in-Big
returns-in-Big g c = rw c.in-Big.is (rw c.header-in-Big.ensures at c.write_big.ensures)
