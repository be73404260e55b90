use Rattle.std.proofs.Common.{◌∙◌, length, ap, sym}
use Rattle.std.proofs.lemmas.List.{length-map}
use Rattle.pe_records_c.proofs.tables.counts_in.Goals as goal

pub returns-clause-exports : goal.returns-clause-exports
returns-clause-exports c = sym (length-map _ _) ∙ ap length c.ordinals.ensures

pub returns-clause-names : goal.returns-clause-names
returns-clause-names c = sym (length-map _ _) ∙ ap length c.names.ensures
