-- A correct guess gives what the search would find.
use Rattle.std.proofs.Common.{◌∙◌, ap, sym}
use Rattle.std.specs.Prelude.{option_map, option_and_then}
use Rattle.pe_tables.specs.Key.{target_view}
use Rattle.pe_tables.proofs.export_lookup.Exports.by_guess.Goals as goal

pub returns-in-Some : goal.returns-in-Some
returns-in-Some g c =
    let exports = c.args.self.now in
    ap (option_and_then (option_map target_view)) (sym c.in-Some.ensures) ∙ exports.searchable c.args.name.now
