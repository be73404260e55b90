use Rattle.pe_page.proofs.Adding.{◌and◌}
use Rattle.pe_record_pages.proofs.arm_unwind.write_record.Goals as goal

pub returns : goal.returns
returns g c = (_, c.write_parts.ensures) and c.write_handler.ensures and (_, c.text.ensures)
