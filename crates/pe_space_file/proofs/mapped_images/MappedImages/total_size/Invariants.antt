use Rattle.std.proofs.Common.{◌≡◌, ◌*◌, ◌^◌, ◌≤◌, take}
use Rattle.std.specs.List.{sum_by}
use Rattle.pe_space.specs.Content.{SpaceImage}
use Rattle.pe_space_file.proofs.mapped_images.MappedImages.total_size.Given as goal

abbrev pub invariant-loop-number : goal.invariant-loop-number
invariant-loop-number g l = record {
  total : l.total ≡ sum_by (λ (image : SpaceImage). image.size) (take l.number l.self.images);
  small : l.total ≤ l.number * 2 ^ 32;
}
