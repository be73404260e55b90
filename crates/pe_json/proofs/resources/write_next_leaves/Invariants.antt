use Rattle.std.proofs.Common.{take, ◌++◌, codes}
use Rattle.std.specs.Prelude.{flat_map}
use Rattle.pe_layout.specs.Layout.{image_of}
use Rattle.pe_text.specs.TextWriter.{Adds}
use Rattle.pe_json.specs.ResourceRows.{leaf_row}
use Rattle.pe_json.proofs.resources.write_next_leaves.Given as goal

abbrev pub invariant-loop-leaf : goal.invariant-loop-leaf
invariant-loop-leaf g l = record {
  adds : Adds g.W.Sink.taken g.W.Sink.failures l.initial.text l.text (flat_map (λ leaf. codes "," ++ leaf_row (image_of l.layout) leaf) (take l.leaf-index l.leaves));
}
