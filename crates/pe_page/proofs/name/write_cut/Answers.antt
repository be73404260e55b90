use Rattle.pe_text.proofs.Adding.{◌then◌}
use Rattle.pe_page.proofs.name.write_cut.Goals as goal

pub returns : goal.returns
returns g c = (rw c.cut.ensures at c.write_whole.ensures) then (rw c.cut_mark.ensures at c.text.ensures)
