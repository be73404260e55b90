-- The texts of files with the same answers.
use Rattle.std.proofs.Common.{◌≡◌, ℕ, List, sym, ◌∙◌, ap, ap₂}
use Rattle.pe_head.specs.Head.{head_of}
use Rattle.pe_layout.specs.Image.{image_of_file}
use Rattle.pe_tables.specs.Exports.{exports_of}
use Rattle.pe_tables.specs.Imports.{imports_of}
use Rattle.pe_tables.specs.Fixups.{fixups_of}
use Rattle.pe_image.specs.ImageTests.{image_tests}
use Rattle.pe_view.specs.Faults.{Test, first_standing}
use Rattle.pe_text.specs.declared.outcome.Outcome.{Outcome}
use Rattle.pe_text.specs.declared.outcome.Outcome.TheVariants.{Done, Refused}
use Rattle.pe_text.specs.Engine.{IsFileText}
use Rattle.pe_reach.specs.Reach.{SameAnswers}
use Rattle.pe_reach.specs.Sized.{Follows}
use Rattle.pe_lines.specs.Dump.{dump_text}
use Rattle.pe_lines.specs.Format.{accepted_line}
use Rattle.pe_lines.specs.Reports.{IsCheckText, IsDumpText}

text_follows : (tests : List ℕ → List Test) (lines : List ℕ → List ℕ) (f g : List ℕ) → first_standing (tests f) ≡ first_standing (tests g) → lines f ≡ lines g → (outcome : Outcome) (text : List ℕ) → IsFileText tests lines g outcome text → IsFileText tests lines f outcome text
text_follows tests lines f g same l Done text is = (same ∙ is.0, is.1 ∙ sym l)
text_follows tests lines f g same l (Refused fault) text is = (same ∙ is.0, is.1)

module _ (first : (number : ℕ) (f g : List ℕ) → SameAnswers f g → first_standing (image_tests number f) ≡ first_standing (image_tests number g)) where
  pub check_follows : Follows IsCheckText
  check_follows f g s = text_follows (image_tests 0) (λ file. accepted_line (head_of file)) f g (first 0 f g s) (ap accepted_line s.headers)

  pub dump_follows : Follows IsDumpText
  dump_follows f g s = text_follows (image_tests 0) (λ file. let i = image_of_file 0 file in dump_text (head_of file) (exports_of i) (imports_of i) (fixups_of i)) f g
      (first 0 f g s)
      (ap₂ (λ h i. dump_text h (exports_of i) (imports_of i) (fixups_of i)) s.headers (s.image 0))
