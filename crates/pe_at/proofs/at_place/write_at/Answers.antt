use Rattle.pe_page.proofs.Adding.{◌and◌}
use Rattle.pe_at.proofs.at_place.write_at.Goals as goal

pub returns : goal.returns
returns g c = c.write_line.ensures and c.write_bytes.ensures
