use Rattle.std.proofs.Common.{take, map}
use Rattle.std.specs.Prelude.{flat_map}
use Rattle.pe_space.specs.Content.{placement_of}
use Rattle.pe_map_lines.specs.MapReport.{bind_line, export_address}
use Rattle.pe_text.specs.TextWriter.{Adds}
use Rattle.pe_map_lines.proofs.map_lines.write_bindings.Given as goal

abbrev pub invariant-loop-binding : goal.invariant-loop-binding
invariant-loop-binding g l = record {
  adds : Adds g.W.Sink.taken g.W.Sink.failures l.initial.text l.text
      (flat_map (λ b. bind_line b (export_address (map placement_of (g.S.Space.content l.space).images) b)) (take l.binding-index (g.S.Space.content l.space).bindings));
}
