use Rattle.std.proofs.Common.{◌≡◌}
use Rattle.pe_layout.specs.Layout.{image_of}
use Rattle.pe_resources.specs.Order.{ascends}
use Rattle.pe_resources.specs.Section.{entry_at}
use Rattle.pe_resources.proofs.section.Section.is_ascending.Given as goal

abbrev pub invariant-loop-index : goal.invariant-loop-index
invariant-loop-index l = record {
  ascending : l.ascending ≡ ascends (image_of l.self.layout.now) l.self.start l.offset l.index;
  before : l.before ≡ entry_at (image_of l.self.layout.now) l.self.start l.offset l.index;
}
