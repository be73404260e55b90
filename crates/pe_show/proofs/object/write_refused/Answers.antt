use Rattle.pe_page.proofs.Adding.{◌and◌}
use Rattle.pe_show.proofs.object.write_refused.Goals as goal

pub returns : goal.returns
returns g c = c.write_title.ensures and c.write_refusal.ensures
