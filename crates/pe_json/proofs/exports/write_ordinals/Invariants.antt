use Rattle.std.proofs.Common.{◌≡◌, ◌&&◌, ◌++◌, true, ℕ, List, drop, map}
use Rattle.std.specs.Prelude.{flat_map}
use Rattle.pe_tables.specs.ExportsView.{ordinal_view, by_ordinal_view}
use Rattle.pe_tables.specs.NameIndex.{export_view}
use Rattle.pe_json.specs.ExportRows.{ordinal_rows}
use Rattle.pe_text.specs.TextWriter.{Adds}
use Rattle.pe_json.specs.Listed.{is_nil, items_text}
use Rattle.pe_json.proofs.exports.write_ordinals.Given as goal

abbrev pub invariant-loop-ordinal : goal.invariant-loop-ordinal
invariant-loop-ordinal g l = (written : List (List ℕ)) × Adds g.W.Sink.taken g.W.Sink.failures l.initial.text l.text (items_text true written)
    × (written ++ flat_map (λ pair. ordinal_rows (map export_view l.exports) (by_ordinal_view l.names) (ordinal_view pair)) (drop l.ordinal-index l.ordinals) ≡ flat_map (λ pair. ordinal_rows (map export_view l.exports) (by_ordinal_view l.names) (ordinal_view pair)) l.ordinals)
    × (l.first ≡ (true && is_nil written))
