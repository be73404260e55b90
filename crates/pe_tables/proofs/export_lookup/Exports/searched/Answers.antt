use Rattle.std.proofs.Common.{◌∙◌, ap}
use Rattle.std.specs.Prelude.{option_map, option_and_then}
use Rattle.pe_tables.specs.Key.{target_view}
use Rattle.pe_tables.proofs.export_lookup.Exports.searched.Goals as goal

pub returns-in_err-get : goal.returns-in_err-get
returns-in_err-get g c =
    let exports = c.args.self.now in
    ap (option_map target_view) c.from_residual.ensures
    ∙ ap (option_and_then (option_map target_view)) c.in_err-get.ensures
    ∙ exports.searchable c.args.name.now

pub returns : goal.returns
returns g c =
    let exports = c.args.self.now in
    ap (option_and_then (option_map target_view)) c.in_ok-get.ensures
    ∙ exports.searchable c.args.name.now
