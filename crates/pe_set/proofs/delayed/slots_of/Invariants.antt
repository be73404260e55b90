use Rattle.std.proofs.Common.{map, take}
use Rattle.pe_ranges.specs.Ranges.{SameRanges}
use Rattle.pe_ranges.specs.RangesView.{ranges_in}
use Rattle.pe_tables.specs.ImportView.{import_view}
use Rattle.pe_set.specs.DelayedImports.{slot_ranges}
use Rattle.pe_set.proofs.delayed.slots_of.Given as goal

abbrev pub invariant-loop-import : goal.invariant-loop-import
invariant-loop-import g l = SameRanges (ranges_in l.slots) (slot_ranges l.width (map import_view (take l.import-index l.imports)))
