use Rattle.std.proofs.Common.{◌≡◌, ◌+◌, ◌≤◌, drop}
use Rattle.std.specs.Prelude.{map}
use Rattle.pe_resource_files.specs.Group.{pair_of}
use Rattle.pe_resource_files.specs.PicturesFile.{total_len}
use Rattle.pe_resource_files.proofs.pictures.total_len.Given as goal

abbrev pub invariant-loop-picture : goal.invariant-loop-picture
invariant-loop-picture l = record {
  small : l.total ≤ l.most;
  rest : l.total + total_len (map pair_of (drop l.picture-index l.pictures)) ≡ total_len (map pair_of l.pictures);
}
