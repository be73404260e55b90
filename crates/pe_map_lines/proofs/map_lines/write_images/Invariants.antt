use Rattle.std.proofs.Common.{ℕ, List, ◌≡◌, ◌++◌, drop, map}
use Rattle.pe_set.specs.SetView.{entry_view}
use Rattle.pe_set.specs.declared.entry.SetEntry.{SetEntry}
use Rattle.pe_space.specs.Content.{placement_of}
use Rattle.pe_map_lines.specs.MapReport.{told_line}
use Rattle.pe_text.specs.Text.{numbered}
use Rattle.pe_text.specs.TextWriter.{Adds}
use Rattle.pe_map_lines.proofs.map_lines.write_images.Given as goal

abbrev pub invariant-loop-number : goal.invariant-loop-number
invariant-loop-number g l =
    let line = λ (number : ℕ) (e : SetEntry). told_line (map placement_of (g.S.Space.content l.space).images) number (entry_view e) in
    (written : List ℕ) × Adds g.W.Sink.taken g.W.Sink.failures l.initial.text l.text written
    × (written ++ numbered line l.number (drop l.number l.set) ≡ numbered line 0 l.set)
