use Rattle.pe_page.proofs.Adding.{◌and◌}
use Rattle.pe_record_pages.proofs.unwind.write_unwind.Goals as goal

pub returns : goal.returns
returns g c = c.write_own.ensures and c.write_chain.ensures
