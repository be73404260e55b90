use Rattle.std.proofs.Common.{◌≡◌, length, map, take}
use Rattle.pe_layout.specs.Layout.{image_of}
use Rattle.pe_records_c.specs.Rows.{filled}
use Rattle.c_tables.specs.ResourceRows.{resource_row, resource_text}
use Rattle.c_tables.proofs.resource.put_leaves.Given as goal

abbrev pub invariant-loop-index : goal.invariant-loop-index
invariant-loop-index l = record {
  told : map resource_text l.rows ≡ filled (resource_row (image_of l.layout)) (take l.index l.leaves) (map resource_text l.initial.rows);
  len : length l.rows ≡ length l.initial.rows;
}
