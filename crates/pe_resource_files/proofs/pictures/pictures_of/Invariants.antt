use Rattle.std.proofs.Common.{◌≡◌, length, Some}
use Rattle.std.specs.Prelude.{map}
use Rattle.pe_view.specs.View.{bytes_of}
use Rattle.pe_layout.specs.Layout.{image_of}
use Rattle.pe_resource_files.specs.Group.{pair_of}
use Rattle.pe_resource_files.specs.Pictures.{pictures_of}
use Rattle.pe_resource_files.proofs.pictures.pictures_of.Given as goal

abbrev pub invariant-loop-index : goal.invariant-loop-index
invariant-loop-index g l = record {
  count : length l.pictures.items ≡ l.index;
  pictures : pictures_of (image_of l.layout) l.by_id.leaves.now l.by_id.kind (bytes_of l.group) l.index ≡ Some (map pair_of l.pictures.items);
}
