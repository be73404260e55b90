use Rattle.pe_page.proofs.Adding.{◌and◌}
use Rattle.pe_at.proofs.no_place.write_several.Goals as goal

pub returns : goal.returns
returns g c = c.write_numbers.ensures and c.write_more.ensures and (_, c.write_parts.ensures)
