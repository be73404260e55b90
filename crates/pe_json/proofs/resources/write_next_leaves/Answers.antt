use Rattle.std.proofs.Common.{◌++◌, codes}
use Rattle.pe_layout.specs.Layout.{image_of}
use Rattle.pe_json.specs.ResourceRows.{leaf_row}
use Rattle.pe_json.proofs.Objects.{left-out, rows_left}
use Rattle.pe_json.proofs.resources.write_next_leaves.Goals as goal

pub returns-then-has_failed : goal.returns-then-has_failed
returns-then-has_failed g c = left-out _ _ _ _ _ c.loop-leaf.invariant.adds (c.has_failed.ensures.ends c.if-has_failed.true)
    (rows_left (λ leaf. codes "," ++ leaf_row (image_of c.args.layout.now) leaf) c.loop-leaf.leaf-index c.args.leaves.now)
