use Rattle.std.proofs.Common.{◌∙◌, List, ap}
use Rattle.pe_set.specs.Placement.{Placement}
use Rattle.pe_space.specs.Content.{Content, window_image, image_at}
use Rattle.pe_space.proofs.FileSpaces.{placed_so, filed_order, filed_apart}
use Rattle.pe_space.proofs.file_space.FileSpaceSpace.image_at.Goals as goal

pub window_image-requires-clause-order : goal.window_image-requires-clause-order
window_image-requires-clause-order g c = filed_order c.self.inside.images.items c.as_slice.result.now c.self.invariant c.as_slice.ensures.value c.as_slice-2.ensures.value

pub window_image-requires-clause-apart : goal.window_image-requires-clause-apart
window_image-requires-clause-apart g c = filed_apart c.self.inside.images.items c.as_slice.result.now c.self.invariant c.as_slice.ensures.value

pub returns : goal.returns
returns g c =
    c.window_image.ensures.image
    ∙ ap (λ (ps : List Placement). window_image ps c.args.address c.args.count) (placed_so c.self.inside.images.items c.as_slice.result.now c.self.inside.bindings.items c.as_slice.ensures.value)
    ∙ ap (λ (x : Content). image_at x c.args.address c.args.count) c.self.view_is
