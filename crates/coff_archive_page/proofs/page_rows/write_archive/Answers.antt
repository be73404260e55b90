use Rattle.pe_page.proofs.Adding.{◌and◌}
use Rattle.coff_archive_page.proofs.page_rows.write_archive.Goals as goal

pub returns : goal.returns
returns g c = c.write_title.ensures and c.write_counts.ensures and c.write_members.ensures and c.write_symbols.ensures and c.write_findings.ensures and c.write_refusal.ensures
