use Rattle.pe_page.proofs.Adding.{◌and◌}
use Rattle.pe_show.proofs.sections.write_sections.Goals as goal

pub loop-index-init : goal.loop-index-init
loop-index-init g c = record { ready = c.write_cells.ensures.1.ready; adds = c.write_heading.ensures and c.write_cells.ensures }

pub loop-index-preserved : goal.loop-index-preserved
loop-index-preserved g c = record { ready = c.write_section.ensures.1.ready; adds = c.loop-index.invariant.adds and c.write_section.ensures }
