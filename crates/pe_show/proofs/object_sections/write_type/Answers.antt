use Rattle.pe_text.proofs.Adding.{◌then◌}
use Rattle.pe_show.proofs.object_sections.write_type.Goals as goal

pub returns-in-None : goal.returns-in-None
returns-in-None g c = rw c.in-None.is (c.text-in-None.ensures then c.hex.ensures)
