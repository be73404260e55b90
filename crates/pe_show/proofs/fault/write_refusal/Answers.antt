use Rattle.pe_page.proofs.Adding.{◌and◌}
use Rattle.pe_show.proofs.fault.write_refusal.Goals as goal

pub returns : goal.returns
returns g c = c.begin_refusal.ensures and c.write_detail.ensures and c.write_kind.ensures and c.end_refusal.ensures
