use Rattle.pe_text.proofs.Adding.{◌then◌}
use Rattle.pe_show.proofs.object_sections.write_symbol_name.Goals as goal

pub returns-in-Some : goal.returns-in-Some
returns-in-Some g c = rw c.in-Some.is (c.text.ensures then c.write_name.ensures)
