use Rattle.std.proofs.lemmas.Result.{err_from_is_err_and}
use Rattle.std.proofs.Common.{[], ◌∷◌, ◌++◌, ◌∙◌, ap}
use Rattle.pe_tables.proofs.HeldExports.{learns-some}
use Rattle.pe_tables.proofs.name_index.NameIndex.add.Goals as goal

pub returns-in_err-hold-clause-known : goal.returns-in_err-hold-clause-known
returns-in_err-hold-clause-known g c = let p = err_from_is_err_and c.from_residual.result c.from_residual.ensures.1 in rw p.1 tt

pub returns-in_err-hold-clause-learns : goal.returns-in_err-hold-clause-learns
returns-in_err-hold-clause-learns g c = let p = err_from_is_err_and c.from_residual.result c.from_residual.ensures.1 in rw p.1 tt

pub returns-in_err-push-clause-known : goal.returns-in_err-push-clause-known
returns-in_err-push-clause-known g c = let p = err_from_is_err_and c.from_residual-in_err-push.result c.from_residual-in_err-push.ensures.1 in rw p.1 tt

pub returns-in_err-push-clause-learns : goal.returns-in_err-push-clause-learns
returns-in_err-push-clause-learns g c = let p = err_from_is_err_and c.from_residual-in_err-push.result c.from_residual-in_err-push.ensures.1 in rw p.1 tt

pub returns-in_err-push-2-clause-known : goal.returns-in_err-push-2-clause-known
returns-in_err-push-2-clause-known g c = let p = err_from_is_err_and c.from_residual-in_err-push-2.result c.from_residual-in_err-push-2.ensures.1 in rw p.1 tt

pub returns-in_err-push-2-clause-learns : goal.returns-in_err-push-2-clause-learns
returns-in_err-push-2-clause-learns g c = let p = err_from_is_err_and c.from_residual-in_err-push-2.result c.from_residual-in_err-push-2.ensures.1 in rw p.1 tt

pub returns-in_ok-push-2-clause-learns : goal.returns-in_ok-push-2-clause-learns
returns-in_ok-push-2-clause-learns g c =
    let hold = c.in_ok-hold.ensures in
    learns-some c.args.self.now _ c.args.text.bytes c.args.ordinal c.args.target c.in-Some.target c.in_ok-hold.field-0 c.in-Some.is c.if-not-branch.false hold.held.0 hold.held.1
    (c.in_ok-push.ensures.items ∙ ap (λ exports. exports.items ++ (c.args.text.bytes, c.in-Some.target) ∷ []) hold.exports)
    (c.in_ok-push-2.ensures.items ∙ ap (λ ordinals. ordinals.items ++ c.args.ordinal ∷ []) hold.ordinals)
