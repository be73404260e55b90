use Rattle.std.proofs.Common.{◌≡◌, ◌/◌, ◌++◌, drop}
use Rattle.std.specs.List.{filter_map}
use Rattle.pe_view.specs.Faults.{first_standing}
use Rattle.pe_view.specs.View.{size_of}
use Rattle.pe_layout.specs.Layout.{image_of}
use Rattle.pe_ranges.specs.RangesView.{ranges_in}
use Rattle.pe_tables.specs.Fixups.{entries_at, fixup_of}
use Rattle.pe_tables.specs.FixupFaults.{entries_tests}
use Rattle.pe_tables.specs.FixupReading.{IsIndexed, IsSettled, Keeps}
use Rattle.pe_tables.proofs.fixups.read_entries.Given as goal

abbrev pub invariant-loop-index : goal.invariant-loop-index
invariant-loop-index g l =
    let i = image_of l.layout in
    let entries = entries_at i l.page l.rva (size_of l.bytes / 2) in
    record {
      keeps : Keeps l.fn.found l.found;
      indexed : IsIndexed l.found;
      fixups : l.found.fixups.items ++ filter_map fixup_of (drop l.index entries) ≡ l.fn.found.fixups.items ++ filter_map fixup_of entries;
      tests : IsSettled l.found → first_standing (entries_tests i (ranges_in l.slots) l.found.fixups.items (drop l.index entries)) ≡ first_standing (entries_tests i (ranges_in l.slots) l.fn.found.fixups.items entries);
    }
