use Rattle.std.proofs.Common.{◌≡◌, ◌-◌, ◌≤◌, ◌++◌, drop}
use Rattle.std.specs.List.{filter_map}
use Rattle.pe_view.specs.Faults.{first_standing}
use Rattle.pe_layout.specs.Layout.{image_of}
use Rattle.pe_ranges.specs.RangesView.{ranges_in}
use Rattle.pe_tables.specs.Fixups.{block_at, entries_of, fixup_of, fixups_in}
use Rattle.pe_tables.specs.FixupFaults.{entries_tests}
use Rattle.pe_tables.specs.FixupReading.{IsIndexed, IsSettled, Keeps}
use Rattle.pe_tables.proofs.fixups.read_block.Given as goal

abbrev pub invariant-loop-index : goal.invariant-loop-index
invariant-loop-index g l =
    let i = image_of l.layout in
    let entries = entries_of i (block_at i l.rva) in
    record {
      within : l.index ≤ l.count;
      keeps : Keeps l.initial.found l.found;
      indexed : IsIndexed l.found;
      fixups : l.found.fixups.items ++ filter_map fixup_of (drop l.index entries) ≡ l.initial.found.fixups.items ++ fixups_in i (block_at i l.rva);
      tests : IsSettled l.found → first_standing (entries_tests i (ranges_in l.slots) l.found.fixups.items (drop l.index entries)) ≡ first_standing (entries_tests i (ranges_in l.slots) l.initial.found.fixups.items entries);
    }

abbrev pub decreases-loop-index : goal.decreases-loop-index
decreases-loop-index g l = l.count - l.index
