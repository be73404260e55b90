use Rattle.pe_page.proofs.Adding.{◌and◌}
use Rattle.pe_record_pages.proofs.findings.write_findings.Goals as goal

pub returns : goal.returns
returns g c = c.write_heading.ensures and c.write_each.ensures and c.write_each_trust.ensures
