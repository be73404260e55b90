-- The image that was taken out of a handle is that of its file.
use Rattle.std.proofs.Common.{◌≡◌, ℕ, List, Some, ap, ◌∙◌}
use Rattle.std.specs.Arc.{arc_value}
use Rattle.pe_opened.specs.Held.{Owner, file_in}
use Rattle.pe_opened.specs.declared.handle.ImageHandle.{ImageHandle}

pub file_taken : (owner seen : Owner) (file : List ℕ) (taken handle : ImageHandle) → Some owner ≡ taken.image → taken ≡ handle → seen ≡ owner → file ≡ arc_value seen → Some file ≡ file_in handle.image
file_taken owner seen file taken handle owned same read shown = ap Some (shown ∙ ap arc_value read) ∙ ap file_in (owned ∙ ap (λ (h : ImageHandle). h.image) same)
