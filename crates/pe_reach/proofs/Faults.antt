-- The first fault of files with the same answers.
use Rattle.std.proofs.Common.{◌≡◌, ℕ, List, sym, ◌∙◌, ap, ap₂}
use Rattle.pe_layout.specs.Image.{image_of_file}
use Rattle.pe_image.specs.ImageTests.{image_tests, table_tests}
use Rattle.pe_view.specs.Faults.{first_standing}
use Rattle.pe_view.specs.FirstStanding.{first-append}
use Rattle.std.specs.Option.{option_or}
use Rattle.pe_layout.specs.SectionFaults.{layout_tests}
use Rattle.pe_reach.specs.Reach.{SameAnswers}

-- files with the same answers have the same first of faults 1 to 38
pub image_first_agrees : (number : ℕ) (f g : List ℕ) → SameAnswers f g → first_standing (image_tests number f) ≡ first_standing (image_tests number g)
unfolding image_tests
image_first_agrees number f g s =
    first-append (layout_tests number f) (table_tests (image_of_file number f))
    ∙ ap₂ option_or (s.first number) (ap (λ i. first_standing (table_tests i)) (s.image number))
    ∙ sym (first-append (layout_tests number g) (table_tests (image_of_file number g)))
