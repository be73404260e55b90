use Rattle.std.proofs.Common.{◌∙◌, ap}
use Rattle.std.specs.List.{zip}
use Rattle.std.specs.Prelude.{map}
use Rattle.pe_tables.specs.ExportsView.{exports_view}
use Rattle.pe_tables.specs.NameIndex.{export_view}
use Rattle.pe_records_c.specs.ExportRows.{export_text, export_by_name}
use Rattle.pe_records_c.specs.Rows.{filled}
use Rattle.pe_records_c.proofs.Names.{beside_filled}
use Rattle.pe_records_c.proofs.tables.put_names.Goals as goal

pub returns : goal.returns
returns c =
    beside_filled export_text export_view export_by_name _ _ _ _ c.fill_names.ensures
    ∙ ap (λ n. filled export_by_name (zip n c.name_ordinals.result.now) (map export_text c.args.rows.now)) c.names.ensures
    ∙ ap (λ o. filled export_by_name (zip (exports_view c.args.exports.now).names o) (map export_text c.args.rows.now)) c.name_ordinals.ensures
