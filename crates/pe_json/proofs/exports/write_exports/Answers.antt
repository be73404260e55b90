use Rattle.std.proofs.Common.{true, List, ℕ, map, ap, sym, ◌∙◌}
use Rattle.std.specs.Prelude.{flat_map}
use Rattle.std.proofs.lemmas.List.Folds.{flat_map-map}
use Rattle.pe_tables.specs.Key.{Target}
use Rattle.pe_tables.specs.ExportsView.{exports_view, ordinal_view, by_ordinal_view}
use Rattle.pe_tables.specs.NameIndex.{export_view}
use Rattle.pe_text.proofs.Adding.{◌then◌}
use Rattle.pe_json.specs.JsonText.{list}
use Rattle.pe_json.specs.ExportRows.{ordinal_rows}
use Rattle.pe_json.proofs.Objects.{items_are}
use Rattle.pe_json.proofs.OrderedNames.{rows_by_names}
use Rattle.pe_json.proofs.exports.write_exports.Goals as goal

pub returns : goal.returns
unfolding list
returns g c =
    let e = exports_view c.args.exports.now in
    let n = by_ordinal_view c.args.names.now in
    let exports = map export_view c.names.result.now in
    let is = sym (flat_map-map (ordinal_rows exports n) ordinal_view c.ordinals.result.now)
    ∙ ap (flat_map (ordinal_rows exports n)) c.ordinals.ensures
    ∙ ap (λ (xs : List (List ℕ × Target)). flat_map (ordinal_rows xs n) e.ordinals) c.names.ensures
    ∙ rows_by_names e n c.args.names.now.ordered c.requires.own in
    let rows = items_are true _ _ is c.write_ordinals.ensures in
    c.text.ensures then rows then c.text-2.ensures
