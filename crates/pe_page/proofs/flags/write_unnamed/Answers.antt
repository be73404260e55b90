use Rattle.pe_page.proofs.Adding.{◌and◌}
use Rattle.pe_page.proofs.flags.write_unnamed.Goals as goal

pub returns : goal.returns
returns g c = c.write_break.ensures and (_, c.write_parts.ensures)
