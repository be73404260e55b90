use Rattle.pe_page.proofs.Adding.{◌and◌}
use Rattle.pe_record_pages.proofs.functions.write_arm_function.Goals as goal

pub returns : goal.returns
returns g c = c.write_arm_row.ensures and c.write_selected_arm.ensures
