use Rattle.std.proofs.Common.{◌==◌, ap, ◌∙◌}
use Rattle.std.specs.List.{find}
use Rattle.std.specs.Prelude.{option_map}
use Rattle.pe_records_c.proofs.opened.opened_at.Goals as goal

pub returns-else-ordinal : goal.returns-else-ordinal
returns-else-ordinal c = c.target_of_ordinal.ensures ∙ ap (λ xs. option_map (λ p. p.1) (find (λ p. p.0 == c.args.ordinal) xs)) c.ordinals.ensures
