use Rattle.std.proofs.Common.{rules, refl, map}
use Rattle.std.specs.Prelude.{option_map}
use Rattle.coff_read.specs.ImageNames.{table_of}
use Rattle.pe_tables.specs.ExportsView.{exports_view}
use Rattle.pe_tables.specs.ImportView.{import_view}
use Rattle.pe_text.specs.declared.outcome.Outcome.TheVariants.{Done}
use Rattle.pe_text.proofs.Reports.{Puts-whole, Puts-failed}
use Rattle.pe_json.specs.JsonByParts.{IsImageLine}
use Rattle.pe_json.proofs.parts.print_content.Goals as goal

pub returns-in-Ok : goal.returns-in-Ok
returns-in-Ok g c =
    let content = c.args.content in
    Puts-whole g.W.Sink.taken g.W.Sink.failures
    (IsImageLine c.args.name.now (option_map table_of content.strings) content.headers.now (exports_view content.exports.now) (map import_view content.imports.now) content.fixups.now)
    _ _ c.finish.new.self _ _ Done c.new-text.ensures.fresh (_, (refl, refl), c.write_plain_image.ensures) c.in-Ok.ensures.written (search rules)

pub returns-in-Err : goal.returns-in-Err
returns-in-Err g c =
    let content = c.args.content in
    Puts-failed g.W.Sink.taken g.W.Sink.failures
    (IsImageLine c.args.name.now (option_map table_of content.strings) content.headers.now (exports_view content.exports.now) (map import_view content.imports.now) content.fixups.now)
    _ _ c.finish.new.self _ _ Done c.new-text.ensures.fresh (_, (refl, refl), c.write_plain_image.ensures) c.in-Err.ensures.written (search rules)
