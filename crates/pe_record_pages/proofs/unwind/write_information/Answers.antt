use Rattle.pe_page.proofs.Adding.{◌and◌}
use Rattle.pe_record_pages.proofs.unwind.write_information.Goals as goal

pub returns : goal.returns
returns g c = (_, c.write_parts.ensures) and c.write_cells.ensures and (_, c.text.ensures) and c.write_handler.ensures and (_, c.text-2.ensures)
