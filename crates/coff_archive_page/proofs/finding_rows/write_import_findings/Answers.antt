use Rattle.pe_page.proofs.Adding.{◌and◌}
use Rattle.coff_archive_page.proofs.finding_rows.write_import_findings.Goals as goal

pub loop-shown-preserved : goal.loop-shown-preserved
loop-shown-preserved g c = record { ready = c.write_import_finding.ensures.1.ready; adds = c.loop-shown.invariant.adds and c.write_import_finding.ensures }
