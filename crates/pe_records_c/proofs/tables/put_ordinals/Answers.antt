use Rattle.std.proofs.Common.{◌∙◌, ap}
use Rattle.std.specs.Prelude.{map}
use Rattle.pe_tables.specs.ExportsView.{ordinal_view}
use Rattle.pe_records_c.specs.ExportRows.{export_text, export_by_ordinal}
use Rattle.pe_records_c.specs.Rows.{filled}
use Rattle.pe_records_c.proofs.Rows.{rows_filled}
use Rattle.pe_records_c.proofs.tables.put_ordinals.Goals as goal

pub returns : goal.returns
returns c =
    rows_filled export_text ordinal_view export_by_ordinal _ _ _ c.fill_rows.ensures
    ∙ ap (λ t. filled export_by_ordinal t (map export_text c.args.rows.now)) c.ordinals.ensures
