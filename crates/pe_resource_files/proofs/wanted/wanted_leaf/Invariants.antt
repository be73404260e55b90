use Rattle.std.proofs.Common.{◌≡◌, drop}
use Rattle.std.specs.Prelude.{find}
use Rattle.pe_layout.specs.Layout.{image_of}
use Rattle.pe_resource_files.specs.Wanted.{is_wanted}
use Rattle.pe_resource_files.proofs.wanted.wanted_leaf.Given as goal

abbrev pub invariant-loop-leaf : goal.invariant-loop-leaf
invariant-loop-leaf l = find (is_wanted (image_of l.layout) l.wanted) (drop l.leaf-index l.leaves) ≡ find (is_wanted (image_of l.layout) l.wanted) l.leaves
