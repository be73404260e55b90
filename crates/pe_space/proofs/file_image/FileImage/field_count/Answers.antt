use Rattle.std.proofs.Common.{◌∙◌, ap, length}
use Rattle.std.proofs.lemmas.List.Sorted.{length_permutation}
use Rattle.pe_space.specs.Content.{SpaceImage}
use Rattle.pe_space.proofs.file_image.FileImage.field_count.Goals as goal

pub returns : goal.returns
returns g c = c.len.ensures ∙ c.self.inside.fixups.ok.0 ∙ length_permutation c.self.inside.listed.value.items c.self.inside.fixups.items c.self.invariant.0.same ∙ ap (λ (m : SpaceImage). length m.fixups) c.self.view_is
