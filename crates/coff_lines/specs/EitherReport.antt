-- The dump of an object of either form, by its file.
use Rattle.std.specs.Prelude.{ℕ, List}
use Rattle.pe_view.specs.Faults.{Test}
use Rattle.coff_read.specs.EitherObject.{form_in}
use Rattle.coff_read.specs.FormFaults.{object_tests}
use Rattle.coff_read.specs.FormReading.{object_of}
use Rattle.pe_text.specs.declared.outcome.Outcome.{Outcome}
use Rattle.pe_text.specs.Engine.{IsFileText}
use Rattle.coff_lines.specs.ObjectLines.{object_text}

-- the tests of a file in the form that it is read in
abbrev pub either_tests : List ℕ → List Test
either_tests file = object_tests (form_in file) file

abbrev pub either_text : List ℕ → List ℕ
either_text file = object_text (form_in file) (object_of (form_in file) file)

-- what `dump_either_object` writes for a file
abbrev pub IsEitherObjectText : List ℕ → Outcome → List ℕ → Type 0
IsEitherObjectText = IsFileText either_tests either_text
