-- What the index holds for the name is what the first export of that name is.
use Rattle.std.proofs.Common.{◌∙◌, ap, sym}
use Rattle.std.specs.Prelude.{option_map, option_and_then}
use Rattle.pe_tables.specs.Key.{target_view}
use Rattle.pe_tables.specs.NameTrail.{IsTrailOf}
use Rattle.pe_tables.proofs.export_lookup.Exports.by_name_along.Goals as goal

pub returns-in_ok-found-in-Ok-clause-exact : goal.returns-in_ok-found-in-Ok-clause-exact
unfolding IsTrailOf
returns-in_ok-found-in-Ok-clause-exact g c = λ file is along.
    let exports = c.args.self.now in
    ap (option_and_then (option_map target_view)) (sym c.in_ok-found-in-Ok.was ∙ c.in-Ok.ensures.exact file is along) ∙ exports.searchable c.args.name.bytes.now

pub returns-in_err-found-in-Ok-clause-exact : goal.returns-in_err-found-in-Ok-clause-exact
unfolding IsTrailOf
returns-in_err-found-in-Ok-clause-exact g c = λ file is along.
    let exports = c.args.self.now in
    ap (option_map target_view) c.from_residual.ensures
    ∙ ap (option_and_then (option_map target_view)) (sym c.in_err-found-in-Ok.was ∙ c.in-Ok.ensures.exact file is along) ∙ exports.searchable c.args.name.bytes.now

pub returns-in_ok-found-in-Ok-clause-follows : goal.returns-in_ok-found-in-Ok-clause-follows
unfolding IsTrailOf
returns-in_ok-found-in-Ok-clause-follows g c = λ file is along. c.get_along.ensures.follows file is along

pub returns-in_err-found-in-Ok-clause-follows : goal.returns-in_err-found-in-Ok-clause-follows
unfolding IsTrailOf
returns-in_err-found-in-Ok-clause-follows g c = λ file is along. c.get_along.ensures.follows file is along

pub returns-in-Err-clause-follows : goal.returns-in-Err-clause-follows
unfolding IsTrailOf
returns-in-Err-clause-follows g c = λ file is along. c.get_along.ensures.follows file is along
