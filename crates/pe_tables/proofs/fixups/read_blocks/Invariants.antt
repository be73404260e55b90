use Rattle.std.proofs.Common.{◌≡◌, ◌-◌, ◌≤◌, ◌++◌, [], Some}
use Rattle.std.specs.List.{flat_map}
use Rattle.pe_view.specs.Faults.{first_standing}
use Rattle.pe_layout.specs.Layout.{image_of}
use Rattle.pe_ranges.specs.RangesView.{ranges_in}
use Rattle.pe_tables.specs.Fixups.{blocks_from, blocks_of, fixups_in, fixups_at}
use Rattle.pe_tables.specs.FixupFaults.{blocks_tests}
use Rattle.pe_tables.specs.FixupReading.{IsIndexed, IsSettled, Keeps}
use Rattle.pe_tables.proofs.fixups.read_blocks.Given as goal

abbrev pub invariant-loop-size : goal.invariant-loop-size
invariant-loop-size g l =
    let i = image_of l.layout in
    let left = blocks_from (l.end - l.rva) i l.end l.rva in
    record {
      begins : l.rva ≤ l.end;
      keeps : Keeps l.fn.found l.found;
      indexed : IsIndexed l.found;
      fixups : l.found.fixups.items ++ flat_map (fixups_in i) left ≡ fixups_at i (Some l.fn.directory);
      tests : IsSettled l.found → first_standing (blocks_tests i (ranges_in l.slots) l.end l.found.fixups.items left) ≡ first_standing (blocks_tests i (ranges_in l.slots) l.end [] (blocks_of i l.fn.directory));
    }

abbrev pub decreases-loop-size : goal.decreases-loop-size
decreases-loop-size g l = l.end - l.rva
