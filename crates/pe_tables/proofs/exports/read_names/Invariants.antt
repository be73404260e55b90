use Rattle.std.proofs.Common.{◌≡◌, ◌≤◌, None}
use Rattle.std.specs.Prelude.{map, All}
use Rattle.std.specs.List.{filter_map, range_with_len}
use Rattle.pe_view.specs.Faults.{first_standing}
use Rattle.pe_view.specs.TextEnds.{AreEndsOf}
use Rattle.pe_layout.specs.Layout.{file_of, image_of}
use Rattle.pe_tables.specs.Exports.{named}
use Rattle.pe_tables.specs.ExportFaults.{each_tests, name_tests}
use Rattle.pe_tables.specs.ExportsView.{name_view, IsNameOf}
use Rattle.pe_tables.specs.Window.{IsWindowOf}
use Rattle.pe_tables.proofs.exports.read_names.Given as goal

abbrev pub invariant-loop-index : goal.invariant-loop-index
invariant-loop-index g l = record {
  bound : l.index ≤ l.table.name_count;
  tests : first_standing (each_tests (name_tests (image_of l.layout) l.table) l.index) ≡ None;
  names : map name_view l.names.items ≡ filter_map (named (image_of l.layout) l.table) (range_with_len 0 l.index);
  known : AreEndsOf (file_of l.layout) l.ends;
  pointers : IsWindowOf (image_of l.layout) l.pointers;
  ordinals : IsWindowOf (image_of l.layout) l.ordinals;
  within : All (IsNameOf (file_of l.layout) l.table.entry_count) l.names.items;
}
