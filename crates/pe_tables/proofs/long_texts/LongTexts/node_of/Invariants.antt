use Rattle.std.proofs.Common.{◌≡◌, ◌≤◌, ◌/◌, length, Some}
use Rattle.pe_tables.specs.LongTexts.{node_of}
use Rattle.pe_tables.proofs.long_texts.LongTexts.node_of.Given as goal

abbrev pub invariant-loop-index : goal.invariant-loop-index
invariant-loop-index g l = record {
  bound : l.index ≤ length l.text / 256;
  node : node_of l.self.nodes.items l.text l.index ≡ Some l.node;
}
