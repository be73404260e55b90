use Rattle.pe_page.proofs.Adding.{◌and◌}
use Rattle.pe_record_pages.proofs.summaries.write_table_summary.Goals as goal

pub returns : goal.returns
returns g c = c.write_known.ensures and c.write_mark.ensures
