use Rattle.pe_page.proofs.Adding.{◌and◌}
use Rattle.pe_resource_pages.proofs.version_rows.write_strings.Goals as goal

pub loop-string-preserved : goal.loop-string-preserved
loop-string-preserved g c = record { ready = c.write_string.ensures.1.ready; adds = c.loop-string.invariant.adds and c.write_string.ensures }
