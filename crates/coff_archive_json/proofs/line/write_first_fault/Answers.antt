use Rattle.coff_archive_json.proofs.line.write_first_fault.Goals as goal

pub returns-in-Some : goal.returns-in-Some
returns-in-Some g c = rw c.in-Some.is c.write_refusal.ensures

pub returns-in-None : goal.returns-in-None
returns-in-None g c = rw c.in-None.is c.write_refusal-in-None.ensures
