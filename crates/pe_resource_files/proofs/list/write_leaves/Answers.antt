use Rattle.pe_page.proofs.Adding.{◌and◌}
use Rattle.pe_resource_files.proofs.list.write_leaves.Goals as goal

pub loop-leaf-preserved : goal.loop-leaf-preserved
loop-leaf-preserved g c = record { ready = c.write_leaf.ensures.1.ready; adds = c.loop-leaf.invariant.adds and c.write_leaf.ensures }
