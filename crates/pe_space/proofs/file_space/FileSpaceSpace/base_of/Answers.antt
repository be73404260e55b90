use Rattle.std.proofs.Common.{◌∙◌, List, ap}
use Rattle.pe_set.specs.Placement.{Placement}
use Rattle.pe_space.specs.Content.{Content, base_in, base_at}
use Rattle.pe_space.proofs.FileSpaces.{placed_so}
use Rattle.pe_space.proofs.file_space.FileSpaceSpace.base_of.Goals as goal

pub returns : goal.returns
returns g c =
    c.base_of.ensures
    ∙ ap (λ (ps : List Placement). base_in ps c.args.image) (placed_so c.self.inside.images.items c.as_slice.result.now c.self.inside.bindings.items c.as_slice.ensures.value)
    ∙ ap (λ (x : Content). base_at x c.args.image) c.self.view_is
