use Rattle.pe_page.proofs.Adding.{◌and◌}
use Rattle.pe_record_pages.proofs.rich_header.write_rich_header.Goals as goal

pub returns-in-Some : goal.returns-in-Some
returns-in-Some g c = c.write_summary.ensures and c.write_pairs.ensures
