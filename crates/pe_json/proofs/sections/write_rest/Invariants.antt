use Rattle.std.proofs.Common.{ℕ, List, ◌≡◌, ◌+◌, ◌++◌, codes, drop}
use Rattle.std.specs.Prelude.{option_map}
use Rattle.coff_read.specs.ImageNames.{table_of}
use Rattle.pe_text.specs.Text.{numbered}
use Rattle.pe_text.specs.TextWriter.{Adds}
use Rattle.pe_json.specs.Sections.{section_row}
use Rattle.pe_json.proofs.sections.write_rest.Given as goal

abbrev pub invariant-loop-index : goal.invariant-loop-index
invariant-loop-index g l = (written : List ℕ) × Adds g.W.Sink.taken g.W.Sink.failures l.initial.text l.text written
    × (written ++ numbered (λ index s. codes "," ++ section_row (option_map table_of l.strings) index s) (l.index + 1) (drop l.index l.sections)
    ≡ numbered (λ index s. codes "," ++ section_row (option_map table_of l.strings) index s) 1 l.sections)
