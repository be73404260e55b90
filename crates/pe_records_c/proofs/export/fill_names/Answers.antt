use Rattle.std.proofs.Common.{◌≡◌, length, min, arith}
use Rattle.pe_tables.specs.NameIndex.{export_view}
use Rattle.pe_records_c.specs.ExportRows.{export_text, export_by_name}
use Rattle.pe_records_c.proofs.Names.{beside_fills}
use Rattle.pe_records_c.proofs.export.fill_names.Goals as goal

pub returns : goal.returns
returns c =
    let end : c.loop-index.index ≡ min (min (length c.loop-index.rows) (length c.args.names.now)) (length c.args.ordinals.now) =
    omega (arith, c.loop-index-test.false, c.loop-index.auto.index-end, c.min-count.ensures, c.min.ensures, c.loop-index.auto.rows) in
    beside_fills export_text export_view export_by_name _ _ _ _ c.loop-index.index end c.loop-index.auto.rows c.loop-index.invariant.told c.loop-index.invariant.others
