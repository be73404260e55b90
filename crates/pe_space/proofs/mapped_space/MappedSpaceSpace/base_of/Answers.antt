use Rattle.std.proofs.Common.{◌∙◌, List, ap, sym}
use Rattle.pe_set.specs.Placement.{Placement}
use Rattle.pe_space.specs.Content.{Content, base_in, base_at}
use Rattle.pe_space.specs.InMemory.{images_of}
use Rattle.pe_space.proofs.Addressing.{placed_so}
use Rattle.pe_space.proofs.Defining.{placements_bared}
use Rattle.pe_space.proofs.mapped_space.MappedSpaceSpace.base_of.Goals as goal

pub returns : goal.returns
returns g c =
    let hs = c.self.inside.images.items in
    c.base_of.ensures
    ∙ ap (λ (ps : List Placement). base_in ps c.args.image) (sym (placements_bared 0 c.self.inside.bindings.items (images_of hs) ∙ placed_so hs c.as_slice.result.now c.as_slice.ensures.value))
    ∙ ap (λ (x : Content). base_at x c.args.image) c.self.view_is
