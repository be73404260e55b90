use Rattle.std.proofs.Common.{◌∙◌, sym, ap}
use Rattle.std.specs.Prelude.{is_some}
use Rattle.pe_parts.proofs.Decides.{no_exports, no_imports}
use Rattle.pe_parts.proofs.tables.whole.Goals as goal

pub returns-in_err-exports-clause-some : goal.returns-in_err-exports-clause-some
returns-in_err-exports-clause-some g c = λ i are. ap is_some c.from_residual.ensures ∙ sym (no_exports i c.args.tables are c.in_err-exports.was)

pub returns-in_err-imports-clause-some : goal.returns-in_err-imports-clause-some
returns-in_err-imports-clause-some g c = λ i are. ap is_some c.from_residual-in_err-imports.ensures ∙ sym (no_imports i c.args.tables are c.in_err-imports.was)
