use Rattle.pe_text.proofs.Adding.{◌then◌}
use Rattle.pe_show.proofs.symbols.write_class.Goals as goal

pub returns-in-None : goal.returns-in-None
returns-in-None g c = rw c.in-None.is (c.text.ensures then c.write_right.ensures)
