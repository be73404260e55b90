use Rattle.pe_page.proofs.Adding.{◌and◌}
use Rattle.coff_archive_page.proofs.finding_rows.write_each.Goals as goal

pub loop-finding-preserved : goal.loop-finding-preserved
loop-finding-preserved g c = record { ready = c.write_finding.ensures.1.ready; adds = c.loop-finding.invariant.adds and c.write_finding.ensures }
