use Rattle.std.proofs.Common.{◌≡◌, ◌++◌, ℕ, List, length}
use denote.Shadow.{shadow}
use denote.Text.{Utf8}
use Rattle.pe_text.specs.TextWriter.{Adds}
use Rattle.pe_json.specs.Shown.{shown}
use Rattle.pe_json.proofs.string.write_runs.Given as goal

abbrev pub invariant-loop-rest : goal.invariant-loop-rest
invariant-loop-rest g l = record {
  utf8 : shadow (Utf8 l.rest);
  told : (written : List ℕ) × Adds g.W.Sink.taken g.W.Sink.failures l.initial.text l.text written × (written ++ shown l.rest ≡ shown l.fn.string);
}

abbrev pub decreases-loop-rest : goal.decreases-loop-rest
decreases-loop-rest g l = length l.rest
