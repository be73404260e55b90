use Rattle.std.proofs.Common.{◌∙◌, List, ap, sym}
use Rattle.pe_set.specs.Placement.{Placement}
use Rattle.pe_space.specs.Content.{Content, window_image, image_at}
use Rattle.pe_space.specs.InMemory.{images_of}
use Rattle.pe_space.proofs.Addressing.{placed_so, kept_order, kept_apart}
use Rattle.pe_space.proofs.Defining.{placements_bared}
use Rattle.pe_space.proofs.mapped_space.MappedSpaceSpace.image_at.Goals as goal

pub window_image-requires-clause-order : goal.window_image-requires-clause-order
window_image-requires-clause-order g c = kept_order c.self.inside.images.items c.as_slice.result.now c.self.inside.bindings.items c.self.invariant c.as_slice.ensures.value c.as_slice-2.ensures.value

pub window_image-requires-clause-apart : goal.window_image-requires-clause-apart
window_image-requires-clause-apart g c = kept_apart c.self.inside.images.items c.as_slice.result.now c.self.inside.bindings.items c.self.invariant c.as_slice.ensures.value

pub returns : goal.returns
returns g c =
    let hs = c.self.inside.images.items in
    c.window_image.ensures.image
    ∙ ap (λ (ps : List Placement). window_image ps c.args.address c.args.count) (sym (placements_bared 0 c.self.inside.bindings.items (images_of hs) ∙ placed_so hs c.as_slice.result.now c.as_slice.ensures.value))
    ∙ ap (λ (x : Content). image_at x c.args.address c.args.count) c.self.view_is
