use Rattle.std.proofs.Common.{◌≡◌, ◌+◌, ◌<◌, ◌≤◌, None}
use Rattle.std.specs.Prelude.{map, All, AllPairs}
use Rattle.std.specs.List.{filter_map, range_with_len}
use Rattle.pe_view.specs.Faults.{first_standing}
use Rattle.pe_layout.specs.Layout.{file_of, image_of}
use Rattle.pe_tables.specs.Exports.{by_entry}
use Rattle.pe_tables.specs.ExportFaults.{each_tests, entry_tests}
use Rattle.pe_tables.specs.ExportsView.{ordinal_view}
use Rattle.pe_tables.specs.Forwarders.{AreForwardersOf}
use Rattle.pe_tables.specs.Window.{IsWindowOf}
use Rattle.pe_tables.proofs.exports.read_ordinals.Given as goal

abbrev pub invariant-loop-index : goal.invariant-loop-index
invariant-loop-index g l = record {
  bound : l.index ≤ l.table.entry_count;
  tests : first_standing (each_tests (entry_tests (image_of l.layout) l.directory l.table) l.index) ≡ None;
  ordinals : map ordinal_view l.ordinals.items ≡ filter_map (by_entry (image_of l.layout) l.directory l.table) (range_with_len 0 l.index);
  known : AreForwardersOf (file_of l.layout) l.forwarders;
  addresses : IsWindowOf (image_of l.layout) l.addresses;
  below : All (λ export. export.0 < l.table.ordinal_base + l.index) l.ordinals.items;
  ascending : AllPairs (λ export later. export.0 < later.0) l.ordinals.items;
}
