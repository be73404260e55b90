use Rattle.std.proofs.Common.{List, ℕ, ◌≡◌, ◌+◌, ◌++◌, drop}
use Rattle.coff_read.specs.EitherObject.{form_of, file_of}
use Rattle.coff_read.specs.FormReading.{object_of}
use Rattle.coff_lines.specs.ObjectLines.{section_lines}
use Rattle.pe_text.specs.Text.{numbered}
use Rattle.pe_text.specs.TextWriter.{Adds}
use Rattle.coff_lines.proofs.object_lines.write_sections.Given as goal

abbrev pub invariant-loop-index : goal.invariant-loop-index
invariant-loop-index g l = (written : List ℕ) × Adds g.W.Sink.taken g.W.Sink.failures l.initial.text l.text written
    × (written ++ numbered (section_lines l.machine) (l.index + 1) (drop l.index (object_of (form_of l.object) (file_of l.object)).sections) ≡ numbered (section_lines l.machine) 1 (object_of (form_of l.object) (file_of l.object)).sections)
