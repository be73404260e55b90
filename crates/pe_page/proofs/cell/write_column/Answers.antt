use Rattle.pe_text.proofs.Adding.{◌then◌}
use Rattle.pe_page.proofs.cell.write_column.Goals as goal

pub returns : goal.returns
returns g c = c.write_section_name.ensures then (rw (c.blanks.ensures, c.saturating_sub.ensures, c.section_width.ensures.value) at c.text.ensures)
