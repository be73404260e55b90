use Rattle.std.proofs.Common.{ℕ, List, ◌≡◌, ◌+◌, ◌++◌, codes, drop}
use Rattle.pe_text.specs.Text.{numbered}
use Rattle.pe_text.specs.TextWriter.{Adds}
use Rattle.pe_json.specs.Headers.{directory_row}
use Rattle.pe_json.proofs.directories.write_rest.Given as goal

abbrev pub invariant-loop-index : goal.invariant-loop-index
invariant-loop-index g l = (written : List ℕ) × Adds g.W.Sink.taken g.W.Sink.failures l.initial.text l.text written
    × (written ++ numbered (λ index d. codes "," ++ directory_row index d) (l.index + 1) (drop l.index l.directories) ≡ numbered (λ index d. codes "," ++ directory_row index d) 1 l.directories)
