-- The outcome of a page: the fault that refuses its file, if any.
use Rattle.std.specs.Prelude.{ℕ, List}
use Rattle.pe_view.specs.Faults.{Test}
use Rattle.pe_image.specs.ImageTests.{image_tests}
use Rattle.coff_read.specs.EitherObject.{form_in}
use Rattle.coff_read.specs.FormFaults.{object_tests}
use Rattle.pe_text.specs.declared.outcome.Outcome.{Outcome}
use Rattle.pe_text.specs.FileKind.{tests_by_kind}
use Rattle.pe_text.specs.Outcome.{IsOutcomeOf}

-- the tests of a file: those of an object if its first bytes are those of one, otherwise those of an image with the number 0
abbrev pub file_tests : List ℕ → List Test
file_tests file = tests_by_kind file (object_tests (form_in file) file) (image_tests 0 file)

-- the outcome is that of the file's faults, whatever the page's text is
abbrev pub IsJudged : List ℕ → Outcome → List ℕ → Type 0
IsJudged file outcome text = IsOutcomeOf (file_tests file) outcome

-- the same for a file that is checked as an image
abbrev pub IsImageJudged : List ℕ → Outcome → List ℕ → Type 0
IsImageJudged file outcome text = IsOutcomeOf (image_tests 0 file) outcome
