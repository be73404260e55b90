use Rattle.pe_page.proofs.Adding.{◌and◌}
use Rattle.coff_archive_page.proofs.finding_rows.write_findings.Goals as goal

pub returns : goal.returns
returns g c = c.write_heading.ensures and c.write_each.ensures and c.write_import_findings.ensures
