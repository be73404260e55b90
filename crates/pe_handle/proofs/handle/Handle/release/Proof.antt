-- What an open handle owned goes to its address and allocator; a closed one owned nothing.
use Rattle.std.proofs.Common.{◌≡◌, List, [], ◌∷◌, ◌++◌, refl, sym, lit<}
use mathlib.Core.Bool.{true, false}
use lib.Dec.{T}
use mir.Val.{Val, vcons, vnil, has_ty, WT}
use base.Logic.{SProp, emp, id⊢}
use base.Fml.{ftrue}
use prog.Wp.{WpFn}
use types.Kit.{‵, raw, prop, ◌⊛◌, at_ret, ◌$◌, ◌∵◌, !, qed, by, move, keep, split, join, fsplit, fjoin, regoal, use0, use1}
use types.Run.{stop, fld, lit, of_opd, no_more, and_then, first, branches, exec, returns, enter}
use types.ByLocal.{alloc_all, pass_all, free_all, look_at, get, get_in, sets, sets_last, env}
use types.Part.{agg, sub, whole}
use types.Match.{live}
use contract.Monad.{fact, fact_i}
use contract.Running.{tables}
use denote.Exit.{yes}
use denote.RattleType.{RattleType, owns}
use denote.Signature.{types_at, plain}
use denote.Param.{layout}
use denote.Steps.{nothing}
use denote.Triple.Walked.{Stays, stay_dropped, Goes-dropped, walk_of}
use Rattle.std.specs.Prelude.{None, Some}
use Rattle.std.proofs.alloc.Shapes.{after}
use Rattle.std.proofs.option.Made.{Some-of, none_of}
use Rattle.std.proofs.ResultValues.{and_tt}
use Rattle.std.proofs.raw_atomic.Walks.{proved_at, leaves}
use Rattle.pe_handle.proofs.Stored.{stored, pointer_fits, stored_fits, pair_in}
use Rattle.pe_handle.proofs.Handles.{Alloc, alloc_laws, Parts, Handle, handle_word, handle_fits, handle_out, open_holds, closed_holds}
use Rattle.std.specs.contracts.option.Option as option
use Rattle.pe_handle.specs.contracts.handle.Handle.release.{ended, clauses}
use Rattle.pe_handle.specs.contracts.handle.Handle.release.Key.{name as key}
use Rattle.pe_handle.proofs.handle.Handle.release.Statement.{statement}
use Rattle.pe_handle.proofs.handle.Handle.release.Code as code

pub release_spec : {M : Type 1} → statement M
release_spec 𝓤 𝓛 𝓜 𝓡 wired =
    let c = clauses 𝓛 𝓜.mem 𝓡.returns in let 𝓣 = tables 𝓤 𝓛.H 𝓜 𝓡 𝓡.env in let fn = code.function in
    let hs : Stays ended.signature.params ended.kept = (stay_dropped (plain (λ _. Handle)) yes, tt) in
    proved_at 𝓛 ended hs c 𝓜 𝓡 (Goes-dropped 𝓛 0 (plain (λ _. Handle)) yes (λ κs x f. refl), tt) key fn (code.unfolded 𝓤 𝓛.H 𝓜 𝓡 wired) (λ z are.
    let Out : RattleType = option.the_row Parts in let d : Handle.Denot = z.0.3.0 in let Post : Val → SProp 𝓤 = (walk_of 𝓛 ended hs c).post z in let Run : List Val → SProp 𝓤 = λ ws. WpFn 𝓤 𝓛.H 𝓣.C 𝓣.Λ fn ws Post in
    qed 𝓛 ((‵ ftrue ⊛ ‵ (owns (types_at ended.signature.params z.0.0) z.0.3 z.0.4)) ∷ raw ((c z.0.0 z.0.3).requires z.1) ∷ []) ∵
    split ! $ move ! (1 ∷ []) $ fsplit ! $ handle_out ! d z.0.4.0 (λ h es fits. let w = handle_word d.state d.is_open h in
    regoal ! (λ (us : List Val). prop (Run (us ++ []))) es refl $
    enter ! 𝓣.C 𝓣.Λ fn (w ∷ []) Post $ alloc_all ! (λ l. pass_all ! refl (handle_fits d.state d.is_open h fits, tt) $ let Ev = env fn.locals l in
    sets ! (of_opd ! (get_in ! (fld ! refl (stop !)) (sub ! 0 refl (whole !)))) refl (pointer_fits d.state) $
    sets ! (of_opd ! (get_in ! (fld ! refl (stop !)) (sub ! 1 refl (whole !)))) refl (tt, tt) $
    sets ! (of_opd ! (get_in ! (fld ! refl (stop !)) (sub ! 2 refl (whole !)))) refl fits $
    sets ! (of_opd ! (get ! refl)) refl (tt, tt) $
    first ! $ branches ! (get ! refl)
    (λ is_open. move ! (1 ∷ []) $ open_holds ! d.alloc d.is_open d.state d.owner is_open (λ x some opened.
    let whole_again : Parts.Denot = record { address = d.state; alloc = d.alloc; value = x } in let v = stored d.state h in let made = stored_fits Alloc alloc_laws d.state h fits in
    let answer : Val = live 1 (vcons v vnil) in let good : T (has_ty (layout Out) answer) × WT answer = (and_tt _ made.0, (record { fits = lit< tt }, (made.1, tt))) in
    move ! (1 ∷ 0 ∷ []) $ pair_in Alloc alloc_laws ! d.state d.alloc h $ fjoin ! $ use1 𝓛 (‵ (Parts.own_val whole_again (v ∷ []))) (id⊢ 𝓤 _) $
    sets ! (of_opd ! (get ! refl)) refl (pointer_fits d.state) $
    sets ! (agg ! (and_then ! (get ! refl) (and_then ! (get ! refl) (no_more !)))) refl made $
    sets_last ! (agg ! (and_then ! (lit ! tt) (and_then ! (get ! refl) (no_more !)))) refl good $
    exec ! 𝓣.C 𝓣.Λ Ev (after 5 fn.body) (at_ret Ev Post) $ sets ! (of_opd ! (get ! refl)) refl good $
    returns ! (look_at ! 0 refl) $ free_all ! refl $ use1 𝓛 (‵ (Out.own_val (Some whole_again) (answer ∷ []))) (Some-of 𝓛 Parts whole_again v) $
    -- [the result; nothing; nothing; the requires]
    use0 𝓛 (raw (fact 𝓤 (true ≡ d.is_open))) (fact_i 𝓤 _ (emp 𝓤) (sym opened)) $ use0 𝓛 (raw (fact 𝓤 (Some x ≡ d.owner))) (fact_i 𝓤 _ (emp 𝓤) (sym some)) $ join ! $
    nothing ! $ nothing ! $ fjoin ! $ keep ! (3 ∷ 0 ∷ 2 ∷ 1 ∷ []) $ by ! (leaves 𝓛 ended hs c z answer (Some whole_again) (tt, tt) (tt, tt))))
    (λ is_closed. move ! (1 ∷ []) $ closed_holds ! d.alloc d.is_open d.state d.owner is_closed (λ none shut. let answer : Val = live 0 vnil in let good : T (has_ty (layout Out) answer) × WT answer = (tt, (record { fits = lit< tt }, tt)) in
    sets_last ! (agg ! (and_then ! (lit ! tt) (no_more !))) refl good $
    exec ! 𝓣.C 𝓣.Λ Ev (after 5 fn.body) (at_ret Ev Post) $ sets ! (of_opd ! (get ! refl)) refl good $
    returns ! (look_at ! 0 refl) $ free_all ! refl $ use0 𝓛 (‵ (Out.own_val None (answer ∷ []))) (none_of 𝓛 Parts) $
    -- [the result; the allocator; nothing; nothing; the requires]
    use0 𝓛 (raw (fact 𝓤 (false ≡ d.is_open))) (fact_i 𝓤 _ (emp 𝓤) (sym shut)) $ use0 𝓛 (raw (fact 𝓤 (None ≡ d.owner))) (fact_i 𝓤 _ (emp 𝓤) (sym none)) $ join ! $
    nothing ! $ nothing ! $ fjoin ! $ keep ! (4 ∷ 0 ∷ 2 ∷ 1 ∷ []) $ by ! (leaves 𝓛 ended hs c z answer None (tt, tt) (tt, tt)))))))
