-- An open handle owns what the address and the allocator owned.
use Rattle.std.proofs.Common.{◌≡◌, List, [], ◌∷◌, ◌++◌, refl}
use mathlib.Core.Bool.{true}
use mir.Val.{Val}
use base.Logic.{SProp, emp}
use base.Fml.{ftrue}
use prog.Wp.{WpFn}
use types.Kit.{‵, raw, prop, ◌⊛◌, ◌$◌, ◌∵◌, !, qed, by, move, keep, split, join, fsplit, fjoin, regoal, use0}
use types.Run.{stop, fld, of_opd, true_lit, no_more, and_then, returns, enter}
use types.ByLocal.{alloc_all, pass_all, free_all, look_at, get, get_in, sets}
use types.Part.{agg, sub, whole}
use contract.Monad.{fact, fact_i}
use contract.Running.{tables}
use denote.Exit.{no}
use denote.RattleType.{owns}
use denote.Signature.{types_at, plain}
use denote.Steps.{nothing}
use denote.Triple.Walked.{Stays, stay_dropped, walk_of}
use Rattle.std.specs.Prelude.{Some}
use Rattle.std.proofs.alloc.Calls.{Goes-blank}
use Rattle.std.proofs.raw_atomic.Walks.{proved_at, leaves}
use Rattle.pe_handle.proofs.Stored.{stored, pointer_fits, stored_fits, pair_out}
use Rattle.pe_handle.proofs.Handles.{Alloc, alloc_laws, Parts, Handle, handle_word, handle_fits, handle_in}
use Rattle.pe_handle.specs.contracts.handle.Handle.hold.{ended, clauses}
use Rattle.pe_handle.specs.contracts.handle.Handle.hold.Key.{name as key}
use Rattle.pe_handle.proofs.handle.Handle.hold.Statement.{statement}
use Rattle.pe_handle.proofs.handle.Handle.hold.Code as code

pub hold_spec : {M : Type 1} → statement M
hold_spec 𝓤 𝓛 𝓜 𝓡 wired =
    let c = clauses 𝓛 𝓜.mem 𝓡.returns in let 𝓣 = tables 𝓤 𝓛.H 𝓜 𝓡 𝓡.env in let fn = code.function in
    let hs : Stays ended.signature.params ended.kept = (stay_dropped (plain (λ _. Parts)) no, tt) in
    proved_at 𝓛 ended hs c 𝓜 𝓡 (Goes-blank 𝓛 0 (plain (λ _. Parts)) no (λ κs x f. tt), tt) key fn (code.unfolded 𝓤 𝓛.H 𝓜 𝓡 wired) (λ z are.
    let d : Parts.Denot = z.0.3.0 in let Post : Val → SProp 𝓤 = (walk_of 𝓛 ended hs c).post z in let Run : List Val → SProp 𝓤 = λ ws. WpFn 𝓤 𝓛.H 𝓣.C 𝓣.Λ fn ws Post in
    let made : Handle.Denot = record { state = d.address; is_open = true; alloc = d.alloc; owner = Some d.value } in
    qed 𝓛 ((‵ ftrue ⊛ ‵ (owns (types_at ended.signature.params z.0.0) z.0.3 z.0.4)) ∷ raw ((c z.0.0 z.0.3).requires z.1) ∷ []) ∵
    split ! $ move ! (1 ∷ []) $ fsplit ! $ fsplit ! $ pair_out Alloc alloc_laws ! d.address d.alloc z.0.4.0 (λ h es fits. let w = stored d.address h in
    regoal ! (λ (us : List Val). prop (Run (us ++ []))) es refl $
    enter ! 𝓣.C 𝓣.Λ fn (w ∷ []) Post $ alloc_all ! (λ l. pass_all ! refl (stored_fits Alloc alloc_laws d.address h fits, tt) $
    sets ! (of_opd ! (get_in ! (fld ! refl (stop !)) (sub ! 0 refl (whole !)))) refl (pointer_fits d.address) $
    sets ! (of_opd ! (get_in ! (fld ! refl (stop !)) (sub ! 1 refl (whole !)))) refl fits $
    sets ! (of_opd ! (get ! refl)) refl (pointer_fits d.address) $
    sets ! (agg ! (and_then ! (get ! refl) (and_then ! (true_lit !) (and_then ! (get ! refl) (no_more !))))) refl (handle_fits d.address true h fits) $
    returns ! (look_at ! 0 refl) $ free_all ! refl $ handle_in ! made h $
    -- [the handle; nothing; nothing; the requires]
    use0 𝓛 (raw (fact 𝓤 (made.is_open ≡ true))) (fact_i 𝓤 _ (emp 𝓤) refl) $ use0 𝓛 (raw (fact 𝓤 (made.owner ≡ Some d.value))) (fact_i 𝓤 _ (emp 𝓤) refl) $ join ! $
    nothing ! $ nothing ! $ fjoin ! $ keep ! (3 ∷ 0 ∷ 2 ∷ 1 ∷ []) $ by ! (leaves 𝓛 ended hs c z (handle_word d.address true h) made (tt, tt) (tt, tt)))))
