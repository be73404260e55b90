use Rattle.std.proofs.Common.{ap, ◌∙◌}
use Rattle.pe_opened.proofs.Kept.{exports_kept}
use Rattle.pe_opened.proofs.opened.OpenedImage.name_ordinals.Goals as goal

pub returns : goal.returns
returns c = c.name_ordinals.ensures ∙ ap (λ e. e.name_ordinals) (exports_kept _ _ _ c.self.view_is c.self.invariant)
