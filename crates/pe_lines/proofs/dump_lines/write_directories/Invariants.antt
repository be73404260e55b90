use Rattle.std.proofs.Common.{ℕ, List, ◌≡◌, ◌++◌, drop}
use Rattle.pe_lines.specs.Dump.{directory_line}
use Rattle.pe_text.specs.Text.{numbered}
use Rattle.pe_text.specs.TextWriter.{Adds}
use Rattle.pe_lines.proofs.dump_lines.write_directories.Given as goal

abbrev pub invariant-loop-index : goal.invariant-loop-index
invariant-loop-index g l = (written : List ℕ) × Adds g.W.Sink.taken g.W.Sink.failures l.initial.text l.text written
    × (written ++ numbered directory_line l.index (drop l.index l.directories) ≡ numbered directory_line 0 l.directories)
