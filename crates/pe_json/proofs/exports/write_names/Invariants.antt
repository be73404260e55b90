use Rattle.std.proofs.Common.{◌≡◌, ◌&&◌, ◌++◌, ℕ, List, drop, map}
use Rattle.std.specs.Prelude.{flat_map}
use Rattle.pe_tables.specs.Key.{target_view}
use Rattle.pe_tables.specs.NameIndex.{export_view}
use Rattle.pe_json.specs.ExportRows.{name_at, row_if}
use Rattle.pe_text.specs.TextWriter.{Adds}
use Rattle.pe_json.specs.Listed.{is_nil, items_text}
use Rattle.pe_json.proofs.exports.write_names.Given as goal

abbrev pub invariant-loop-name : goal.invariant-loop-name
invariant-loop-name g l = (written : List (List ℕ)) × Adds g.W.Sink.taken g.W.Sink.failures l.initial.text l.text (items_text l.first written)
    × (written ++ flat_map (λ name. row_if l.ordinal (target_view l.target) (name_at (map export_view l.names) name.1)) (drop l.name-index l.own) ≡ flat_map (λ name. row_if l.ordinal (target_view l.target) (name_at (map export_view l.names) name.1)) l.own)
    × (l.is_first ≡ (l.first && is_nil written))
