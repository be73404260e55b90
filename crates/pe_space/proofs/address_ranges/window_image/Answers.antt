use Rattle.std.proofs.Common.{◌∙◌, ap, sym, map, Err}
use Rattle.pe_space.specs.Content.{window_image_by}
use Rattle.pe_space.proofs.address_ranges.window_image.Goals as goal

pub returns-in_default-clause-image : goal.returns-in_default-clause-image
returns-in_default-clause-image g c =
    ap (λ (fault : _). Err fault) c.window_fault.ensures
    ∙ ap (window_image_by (map g.P.Placed.placement c.args.images.now) c.args.address c.args.count) (sym c.in_default.is ∙ c.holder.ensures.holder)
