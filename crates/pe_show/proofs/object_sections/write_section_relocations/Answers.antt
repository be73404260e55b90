use Rattle.pe_page.proofs.Adding.{◌and◌}
use Rattle.pe_show.proofs.object_sections.write_section_relocations.Goals as goal

pub loop-index-preserved : goal.loop-index-preserved
loop-index-preserved g c = record { ready = c.write_relocation.ensures.ready; adds = c.loop-index.invariant.adds and (_, c.write_relocation.ensures) }
