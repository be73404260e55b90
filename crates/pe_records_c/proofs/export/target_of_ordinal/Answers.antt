use Rattle.std.proofs.Common.{ap, sym, ◌∙◌}
use Rattle.std.specs.Prelude.{option_map}
use Rattle.pe_tables.specs.Key.{target_view}
use Rattle.pe_records_c.proofs.Found.{target_found}
use Rattle.pe_records_c.proofs.export.target_of_ordinal.Goals as goal

pub returns-in-Some : goal.returns-in-Some
returns-in-Some c = ap (λ o. option_map target_view (option_map (λ e. e.1) o)) c.in-Some.ensures ∙ sym (target_found c.args.exports.now c.args.ordinal)

pub returns-in-None : goal.returns-in-None
returns-in-None c = ap (λ o. option_map target_view (option_map (λ e. e.1) o)) c.in-None.ensures ∙ sym (target_found c.args.exports.now c.args.ordinal)
