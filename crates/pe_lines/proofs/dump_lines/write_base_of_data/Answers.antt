use Rattle.pe_lines.proofs.dump_lines.write_base_of_data.Goals as goal

pub returns-in-Some : goal.returns-in-Some
returns-in-Some g c = rw c.in-Some.is c.write_fields-in-Some.ensures
