-- A closed handle owns nothing except its fields.
use Rattle.std.proofs.Common.{◌≡◌, List, [], ◌∷◌, ◌++◌, refl}
use mathlib.Core.Bool.{false}
use mir.Val.{Val}
use base.Logic.{SProp, emp}
use base.Fml.{ftrue}
use prog.Wp.{WpFn}
use types.Kit.{‵, raw, prop, ◌⊛◌, ◌$◌, ◌∵◌, !, qed, by, move, keep, split, join, fsplit, fjoin, regoal, use0}
use types.Run.{lit, false_lit, no_more, and_then, returns, enter}
use types.ByLocal.{alloc_all, pass_all, free_all, look_at, get, sets}
use types.Part.{agg}
use contract.Monad.{fact, fact_i}
use contract.Running.{tables}
use denote.Exit.{yes}
use denote.RattleType.{owns}
use denote.Signature.{types_at, plain}
use denote.RawPtr.{null_ptr}
use denote.Steps.{nothing}
use denote.Triple.Walked.{Stays, stay_dropped, Goes-dropped, walk_of}
use Rattle.std.specs.Prelude.{None}
use Rattle.std.proofs.raw_atomic.Walks.{proved_at, leaves}
use Rattle.pe_handle.proofs.Stored.{one_value}
use Rattle.pe_handle.proofs.Handles.{Alloc, alloc_laws, Handle, handle_word, handle_fits, handle_in}
use Rattle.pe_handle.specs.contracts.handle.Handle.closed.{ended, clauses}
use Rattle.pe_handle.specs.contracts.handle.Handle.closed.Key.{name as key}
use Rattle.pe_handle.proofs.handle.Handle.closed.Statement.{statement}
use Rattle.pe_handle.proofs.handle.Handle.closed.Code as code

pub closed_spec : {M : Type 1} → statement M
closed_spec 𝓤 𝓛 𝓜 𝓡 wired =
    let c = clauses 𝓛 𝓜.mem 𝓡.returns in let 𝓣 = tables 𝓤 𝓛.H 𝓜 𝓡 𝓡.env in let fn = code.function in
    let hs : Stays ended.signature.params ended.kept = (stay_dropped (plain (λ _. Alloc)) yes, tt) in
    proved_at 𝓛 ended hs c 𝓜 𝓡 (Goes-dropped 𝓛 0 (plain (λ _. Alloc)) yes (λ κs x f. refl), tt) key fn (code.unfolded 𝓤 𝓛.H 𝓜 𝓡 wired) (λ z are.
    let a = z.0.3.0 in let Post : Val → SProp 𝓤 = (walk_of 𝓛 ended hs c).post z in let Run : List Val → SProp 𝓤 = λ ws. WpFn 𝓤 𝓛.H 𝓣.C 𝓣.Λ fn ws Post in
    let made : Handle.Denot = record { state = null_ptr; is_open = false; alloc = a; owner = None } in
    qed 𝓛 ((‵ ftrue ⊛ ‵ (owns (types_at ended.signature.params z.0.0) z.0.3 z.0.4)) ∷ raw ((c z.0.0 z.0.3).requires z.1) ∷ []) ∵
    split ! $ move ! (1 ∷ []) $ fsplit ! $ one_value Alloc alloc_laws ! a z.0.4.0 (λ h eh fits.
    regoal ! (λ (us : List Val). prop (Run (us ++ []))) eh refl $
    enter ! 𝓣.C 𝓣.Λ fn (h ∷ []) Post $ alloc_all ! (λ l. pass_all ! refl (fits, tt) $
    sets ! (agg ! (and_then ! (lit ! tt) (and_then ! (false_lit !) (and_then ! (get ! refl) (no_more !))))) refl (handle_fits null_ptr false h fits) $
    returns ! (look_at ! 0 refl) $ free_all ! refl $
    nothing ! $ move ! (1 ∷ 0 ∷ []) $ handle_in ! made h $
    -- [the handle; nothing; nothing; the requires]
    use0 𝓛 (raw (fact 𝓤 (made.is_open ≡ false))) (fact_i 𝓤 _ (emp 𝓤) refl) $ use0 𝓛 (raw (fact 𝓤 (made.owner ≡ None))) (fact_i 𝓤 _ (emp 𝓤) refl) $ join ! $
    nothing ! $ nothing ! $ fjoin ! $ keep ! (3 ∷ 0 ∷ 2 ∷ 1 ∷ []) $ by ! (leaves 𝓛 ended hs c z (handle_word null_ptr false h) made (tt, tt) (tt, tt)))))
