-- The dump of a plain object, by its file.
use Rattle.std.specs.Prelude.{ℕ, List}
use Rattle.coff_read.specs.ObjectFaults.{object_tests}
use Rattle.coff_read.specs.Reading.{object_of}
use Rattle.pe_text.specs.declared.outcome.Outcome.{Outcome}
use Rattle.pe_text.specs.Engine.{IsFileText}
use Rattle.coff_lines.specs.PlainLines.{object_text}

-- what `dump_object` writes for a file
abbrev pub IsObjectText : List ℕ → Outcome → List ℕ → Type 0
IsObjectText = IsFileText object_tests (λ file. object_text (object_of file))
