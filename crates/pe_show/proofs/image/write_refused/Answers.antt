use Rattle.pe_page.proofs.Adding.{◌and◌}
use Rattle.pe_show.proofs.image.write_refused.Goals as goal

pub returns-in-Ok : goal.returns-in-Ok
returns-in-Ok g c = c.write_title.ensures and c.write_headers.ensures and c.write_sections.ensures and c.write_trust.ensures and c.write_findings.ensures and c.write_refusal.ensures
