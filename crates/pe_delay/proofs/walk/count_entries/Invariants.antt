use Rattle.std.proofs.Common.{◌≡◌, ◌≤◌, ◌<◌, ◌+◌, ◌*◌, ◌-◌, ◌^◌, length}
use Rattle.pe_view.specs.TextEnds.{AreEndsOf}
use Rattle.pe_layout.specs.Layout.{file_of, image_of}
use Rattle.pe_delay.specs.Entries.{entries_from}
use Rattle.pe_delay.proofs.walk.count_entries.Given as goal

abbrev pub invariant-loop-import : goal.invariant-loop-import
invariant-loop-import g l =
    let i = image_of l.layout in
    (l.count + length (entries_from i l.tables l.most l.count) ≡ length (entries_from i l.tables l.most 0))
    × (l.count ≤ l.most)
    × (l.tables.names + i.slot_width * l.count < 2 ^ 32)
    × AreEndsOf (file_of l.layout) l.ends

abbrev pub decreases-loop-import : goal.decreases-loop-import
decreases-loop-import g l = l.most - l.count
