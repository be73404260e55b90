use Rattle.pe_page.proofs.Adding.{◌and◌}
use Rattle.pe_record_pages.proofs.rich_header.write_pairs.Goals as goal

pub loop-index-preserved : goal.loop-index-preserved
loop-index-preserved g c = record { ready = c.write_row.ensures.1.ready; adds = c.loop-index.invariant.adds and c.write_row.ensures }
