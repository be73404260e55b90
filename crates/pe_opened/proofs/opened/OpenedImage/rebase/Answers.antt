use Rattle.std.proofs.Common.{◌≡◌, ◌∙◌, ℕ, List, None, ap, subst}
use Rattle.pe_view.specs.Faults.{first_standing, AnswersOrWants}
use Rattle.pe_layout.specs.Image.{image_of_file}
use Rattle.pe_layout.specs.SectionFaults.{layout_tests}
use Rattle.pe_write.specs.Rebase.{rebased}
use Rattle.pe_write.specs.RebaseFaults.{rebase_tests}
use Rattle.pe_opened.proofs.Kept.{laid_out, related}
use Rattle.pe_opened.proofs.opened.OpenedImage.rebase.Goals as goal

pub rebase_image-requires-clause-laid : goal.rebase_image-requires-clause-laid
rebase_image-requires-clause-laid c = laid_out _ c.self.invariant.0

pub rebase_image-requires-clause-shows : goal.rebase_image-requires-clause-shows
rebase_image-requires-clause-shows c = c.self.invariant.1.layout

pub rebase_image-requires-clause-sound : goal.rebase_image-requires-clause-sound
rebase_image-requires-clause-sound c = related _ c.self.invariant.0

pub rebase_image-requires-clause-read : goal.rebase_image-requires-clause-read
rebase_image-requires-clause-read c = c.as_slice.ensures.value ∙ c.self.invariant.1.fixups

pub returns-clause-exact : goal.returns-clause-exact
returns-clause-exact c =
    subst (λ (file : List ℕ). AnswersOrWants (rebase_tests file c.args.base) (λ bytes. bytes.items ≡ rebased file c.args.base) c.rebase_image.result) c.self.view_is c.rebase_image.ensures

pub returns-clause-laid : goal.returns-clause-laid
returns-clause-laid c = subst (λ (file : List ℕ). first_standing (layout_tests 0 file) ≡ None) c.self.view_is (laid_out _ c.self.invariant.0)
