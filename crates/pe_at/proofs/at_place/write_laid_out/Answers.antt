use Rattle.pe_page.proofs.Adding.{◌and◌}
use Rattle.pe_at.proofs.at_place.write_laid_out.Goals as goal

pub returns : goal.returns
returns g c = c.write_fault.ensures and c.write_spots.ensures
