use Rattle.std.proofs.Common.{◌∙◌, length, ap, sym}
use Rattle.std.proofs.lemmas.List.{length-map}
use Rattle.pe_space.specs.Content.{Content}
use Rattle.pe_space.specs.InMemory.{InMemory, images_of}
use Rattle.pe_space.proofs.Unbinding.{length-unbound_images}
use Rattle.pe_space.proofs.mapped_space.MappedSpaceSpace.image_count.Goals as goal

pub returns : goal.returns
returns g c =
    let hs = c.self.inside.images.items in
    c.len.ensures ∙ c.self.inside.images.ok.0
    ∙ sym (length-unbound_images 0 c.self.inside.bindings.items (images_of hs) ∙ length-map hs (λ (h : InMemory). h.image))
    ∙ ap (λ (x : Content). length x.images) c.self.view_is
