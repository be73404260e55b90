use Rattle.std.proofs.Common.{◌≡◌, ◌+◌, ◌*◌, ◌-◌}
use Rattle.pe_layout.specs.Layout.{image_of}
use Rattle.pe_resources.specs.Order.{units_below, is_text_below}
use Rattle.pe_resources.proofs.section.Section.is_text_below.Given as goal

abbrev pub invariant-loop-index : goal.invariant-loop-index
invariant-loop-index l =
    let i = image_of l.self.layout.now in
    is_text_below i l.self.start l.first l.second
    ≡ units_below i l.self.start (64 - l.index) (l.first + 2 + 2 * l.index) (l.first_count - l.index) (l.second + 2 + 2 * l.index) (l.second_count - l.index)
