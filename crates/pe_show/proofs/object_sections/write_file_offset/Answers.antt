use Rattle.pe_text.proofs.Adding.{◌then◌}
use Rattle.pe_show.proofs.object_sections.write_file_offset.Goals as goal

pub returns-in-Some : goal.returns-in-Some
returns-in-Some g c = rw c.in-Some.is (c.text.ensures then c.hex_at_least.ensures)
