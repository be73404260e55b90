-- The output of the engines `check` and `dump` for an image's file.
use Rattle.std.specs.Prelude.{ℕ, List}
use Rattle.pe_head.specs.Head.{head_of}
use Rattle.pe_layout.specs.Image.{image_of_file}
use Rattle.pe_tables.specs.Exports.{exports_of}
use Rattle.pe_tables.specs.Imports.{imports_of}
use Rattle.pe_tables.specs.Fixups.{fixups_of}
use Rattle.pe_image.specs.ImageTests.{image_tests}
use Rattle.pe_text.specs.declared.outcome.Outcome.{Outcome}
use Rattle.pe_text.specs.Engine.{IsFileText}
use Rattle.pe_lines.specs.Dump.{dump_text}
use Rattle.pe_lines.specs.Format.{accepted_line}

-- the output of `check` for a file
abbrev pub IsCheckText : List ℕ → Outcome → List ℕ → Type 0
IsCheckText = IsFileText (image_tests 0) (λ file. accepted_line (head_of file))

-- the output of `dump` for a file
abbrev pub IsDumpText : List ℕ → Outcome → List ℕ → Type 0
IsDumpText = IsFileText (image_tests 0) (λ file. let i = image_of_file 0 file in dump_text (head_of file) (exports_of i) (imports_of i) (fixups_of i))
