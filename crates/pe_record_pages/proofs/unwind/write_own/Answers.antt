use Rattle.pe_page.proofs.Adding.{◌and◌}
use Rattle.pe_record_pages.proofs.unwind.write_own.Goals as goal

pub returns-in-Some : goal.returns-in-Some
returns-in-Some g c = c.write_information.ensures and c.write_found.ensures and c.write_operations.ensures
