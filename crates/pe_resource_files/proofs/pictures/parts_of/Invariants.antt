use Rattle.std.proofs.Common.{◌≡◌, take}
use Rattle.std.specs.Prelude.{map}
use Rattle.pe_resource_files.specs.Group.{pair_of}
use Rattle.pe_resource_files.proofs.pictures.parts_of.Given as goal

abbrev pub invariant-loop-picture : goal.invariant-loop-picture
invariant-loop-picture g l = map (λ part. part.now) l.parts.items ≡ map (λ picture. picture.1) (map pair_of (take l.picture-index l.pictures))
