use Rattle.pe_page.proofs.Adding.{◌and◌}
use Rattle.pe_record_pages.proofs.arm_unwind.write_arm_unwind.Goals as goal

pub returns-in-Some : goal.returns-in-Some
returns-in-Some g c = c.write_record.ensures and c.write_codes.ensures
