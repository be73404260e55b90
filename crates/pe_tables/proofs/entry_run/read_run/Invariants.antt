use Rattle.std.proofs.Common.{◌≡◌, ◌/◌, None}
use Rattle.pe_view.specs.View.{size_of}
use Rattle.pe_layout.specs.Layout.{image_of}
use Rattle.pe_ranges.specs.RangesView.{ranges_in}
use Rattle.pe_tables.specs.Fixups.{entries_at}
use Rattle.pe_tables.specs.FixupReading.{Keeps, ReadsUpTo}
use Rattle.pe_tables.proofs.entry_run.read_run.Given as goal

abbrev pub invariant-loop-index : goal.invariant-loop-index
invariant-loop-index g l =
    let i = image_of l.layout in
    record {
      read : ReadsUpTo i (ranges_in l.slots) (entries_at i l.page l.rva (size_of l.bytes / 2)) l.initial.found l.found l.index;
      no_ranges : l.found.fields ≡ None;
      keeps : Keeps l.initial.found l.found;
    }
