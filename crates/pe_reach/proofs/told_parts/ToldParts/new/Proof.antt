-- `new` makes the token, with the empty list.
use Rattle.std.proofs.Common.{[], ◌∷◌, refl}
use Rattle.std.proofs.raw_atomic.Walks.{proved}
use Rattle.pe_text.proofs.Token.{token, Mark, made}
use base.Fml.{ftrue}
use types.Kit.{‵, ◌⊛◌, ◌$◌, ◌∵◌, !, qed, keep, join, fjoin, suffices, done, use0}
use types.Run.{no_more, and_then, returns, enter}
use types.ByLocal.{alloc_all, pass_all, free_all, look_at, get, sets}
use types.Part.{agg}
use denote.Builtin.{unit}
use denote.Steps.{nothing}
use denote.Triple.Walked.{Stays, walk_of, ends_at, says}
use Rattle.pe_reach.specs.contracts.told_parts.ToldParts as T
use Rattle.pe_reach.specs.contracts.told_parts.ToldParts.new as f
use Rattle.pe_reach.proofs.told_parts.ToldParts.new.Statement.{statement}
use Rattle.pe_reach.proofs.told_parts.ToldParts.new.Code as code

abbrev stayed : Stays f.ended.signature.params f.ended.kept
stayed = tt

pub new_spec : {M : Type 1} → statement M
new_spec 𝓤 𝓛 𝓜 𝓡 wired =
    let c = f.clauses 𝓛 𝓜.mem 𝓡.returns in let W = walk_of 𝓛 f.ended stayed c in
    proved 𝓛 f.ended stayed c 𝓜 𝓡 tt
    f.Key.name code.function (code.unfolded 𝓤 𝓛.H 𝓜 𝓡 wired)
    (λ κs. tt) (λ κs. tt) (λ κs qs bounds a _ are.
    let y : W.Ghost = ((κs, qs, bounds, a, tt), tt) in
    qed 𝓛 ((‵ ftrue ⊛ ‵ ftrue) ∷ ‵ ftrue ∷ []) ∵ keep ! [] $
    enter ! _ _ _ _ _ $ alloc_all ! (λ l. pass_all ! refl tt $
    sets ! (agg ! (no_more !)) refl (tt, tt) $
    sets ! (agg ! (and_then ! (get ! refl) (no_more !))) refl (tt, (tt, tt)) $
    returns ! (look_at ! 0 refl) $ free_all ! refl $
    suffices ! _ (ends_at 𝓛 f.ended stayed c y token record { marker = record {}; list = [] } tt tt) $ says ! refl $
    nothing ! $ use0 𝓛 (‵ ((Mark (T.the_type).name [] unit).own_val (tt, tt) (token ∷ []))) (made (T.the_type).name [] unit 𝓛) $ fjoin ! $
    nothing ! $ join ! $ nothing ! $ join ! $ done !))
