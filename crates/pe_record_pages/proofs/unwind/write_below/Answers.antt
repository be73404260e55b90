use Rattle.pe_page.proofs.Adding.{◌and◌}
use Rattle.pe_record_pages.proofs.unwind.write_below.Goals as goal

pub returns : goal.returns
returns g c = (_, c.text.ensures) and c.write_finding.ensures
