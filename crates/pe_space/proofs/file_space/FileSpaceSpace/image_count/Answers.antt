use Rattle.std.proofs.Common.{◌∙◌, length, ap, sym}
use Rattle.pe_space.specs.Content.{Content}
use Rattle.pe_space.proofs.Unbinding.{length-unbound_images}
use Rattle.pe_space.proofs.file_space.FileSpaceSpace.image_count.Goals as goal

pub returns : goal.returns
returns g c =
    c.len.ensures ∙ c.self.inside.images.ok.0
    ∙ sym (length-unbound_images 0 c.self.inside.bindings.items c.self.inside.images.items)
    ∙ ap (λ (x : Content). length x.images) c.self.view_is
