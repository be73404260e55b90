use Rattle.pe_page.proofs.Adding.{◌and◌}
use Rattle.pe_show.proofs.object_sections.write_relocations.Goals as goal

pub loop-index-preserved : goal.loop-index-preserved
loop-index-preserved g c = record { ready = c.write_section_relocations.ensures.1.ready; adds = c.loop-index.invariant.adds and c.write_section_relocations.ensures }
