use Rattle.pe_page.proofs.Adding.{◌and◌}
use Rattle.coff_archive_page.proofs.page_rows.write_refused.Goals as goal

pub returns : goal.returns
returns g c = c.write_title.ensures and c.write_refusal.ensures
