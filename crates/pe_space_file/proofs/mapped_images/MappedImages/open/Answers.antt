-- The images of an accepted set are apart.
use Rattle.std.proofs.Common.{sym, subst}
use Rattle.pe_set.specs.Set.{modules_of}
use Rattle.pe_set.specs.SetView.{entries_of}
use Rattle.pe_space.specs.ImagesApart.{ImagesApart}
use Rattle.pe_space_file.proofs.Placed.{placed_kept}
use Rattle.pe_space_file.proofs.mapped_images.MappedImages.open.Goals as goal

pub invariant_of-result : goal.invariant_of-result
invariant_of-result g c =
    let es = entries_of c.args.set.now in
    let accepted = c.in_ok-space.ensures.exact in
    subst ImagesApart (sym accepted.1.content) (placed_kept (modules_of es) (c.accepted_sets_are_sound.ensures.sound c.args.policy es accepted.0))
