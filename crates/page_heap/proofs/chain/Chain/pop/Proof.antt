-- `pop` reads the address of the next block from the front of the first. Assumes `Logic`.
use Rattle.std.proofs.Common.{◌≡◌, ℕ, zero, suc, ◌+◌, ◌<◌, List, [], ◌∷◌, ◌++◌, refl, ap, ◌∙◌, arith}
use seplogic.Ra.Ura.{Ura}
use mir.Syntax.{Fn, ty_ptr}
use mir.Val.{Val}
use base.Logic.{SProp, emp, apply∗}
use base.Fml.{froom}
use prog.Wp.{Env, WpFn}
use contract.Monad.{fact, fact_i}
use contract.Running.{tables}
use types.Logic.{Logic, sem}
use types.Kit.{Item, Goal, Seq, ‵, raw, ◌⊛◌, prop, at_ret, ◌$◌, ◌∵◌, !, qed, by, move, drop, use0, use1, use2, split, regoal, fsplit, fjoin, fpick}
use types.Part.{whole, sub, agg}
use types.Run.{stop, fld, load, look, of_opd, no_more, and_then, first, blocks, exec, returns, enter}
use types.ByLocal.{alloc_all, pass_all, free_all, look_at, get, get_in, through, sets, sets_last, env}
use denote.RattleType.{owns}
use denote.RawPtr.{Ptr, block_ptr, ptr_val}
use denote.Signature.{plain, types_at}
use denote.Steps.{nothing, heard}
use denote.Struct.Tuple.{Tuple}
use denote.Triple.Entry.{alive}
use denote.Triple.Walked.{Stays, stay_dropped, walk_of}
use Rattle.core.proofs.alloc.Calls.{Goes-blank}
use Rattle.core.proofs.alloc.Shapes.{after}
use Rattle.std_alloc.proofs.Pairs.{pair_of, pair_val}
use Rattle.std_alloc.proofs.ResultValues.{and_tt}
use Rattle.std.proofs.raw_atomic.Walks.{proved_at, leaves}
use Rattle.page_heap.proofs.Values.{ptr_typed, one_val, one_own, one_told, one_made}
use Rattle.page_heap.specs.Ownership.{bytes_at, Link, freed, chain as linked}
use Rattle.page_heap.specs.contracts.bytes.Bytes as bytes
use Rattle.page_heap.specs.contracts.chain.Chain as chain
use Rattle.page_heap.specs.contracts.chain.Chain.pop.{ended, clauses}
use Rattle.page_heap.specs.contracts.chain.Chain.pop.Key.{name}
use Rattle.page_heap.proofs.chain.Chain.pop.Statement.{statement}
use Rattle.page_heap.proofs.chain.Chain.pop.Code as compiled

-- a chain that is not empty is a first block and the others
opened : {M : Type 1} {𝓤 : Ura M} {𝓛 : Logic 𝓤} {K : Type 0} {Γ : List (Item 𝓤)} {G : Goal 𝓤 𝓛.H} → K → (n k : ℕ) (p : Ptr) → 0 < k
    → ((m : ℕ) (l : Link) → k ≡ suc m → p ≡ block_ptr l.object l.at → Seq K 𝓛 (‵ (freed n l) ∷ ‵ (linked n m l.next) ∷ Γ) G) → Seq K 𝓛 (‵ (linked n k p) ∷ Γ) G
opened t n zero p more then = absurd (omega arith)
opened t n (suc m) p more then = fpick t (λ l. fpick t (λ lies. fsplit t $ then m l refl lies))

abbrev stayed : Stays ended.signature.params ended.kept
stayed = (stay_dropped _ ended.kept.0, tt)

pub pop_spec : {M : Type 1} → statement M
pop_spec 𝓤 𝓛 𝓜 𝓡 wired =
    let H = 𝓛.H in
    let c = clauses 𝓛 𝓜.mem 𝓡.returns in
    let fn : Fn = compiled.function in
    let C = (tables 𝓤 H 𝓜 𝓡 𝓡.env).C in
    let Λ = (tables 𝓤 H 𝓜 𝓡 𝓡.env).Λ in
    proved_at 𝓛 ended stayed c 𝓜 𝓡 (Goes-blank 𝓛 0 (plain (λ _. chain.the_row)) ended.kept.0 (λ κs x f. tt), tt) name fn (compiled.unfolded 𝓤 H 𝓜 𝓡 wired) (λ z are.
    let Post : Val → SProp 𝓤 = (walk_of 𝓛 ended stayed c).post z in
    let a = z.0.3 in
    let vss = z.0.4 in
    let x = a.0 in
    let n = x.size in
    let Asked : Type 0 = 0 < x.count in
    qed 𝓛 ((raw (alive 𝓛 ended.signature z.0.0 z.0.1) ⊛ ‵ (owns (types_at ended.signature.params z.0.0) a vss)) ∷ raw (fact 𝓤 Asked) ∷ []) ∵
    move ! (1 ∷ []) $ heard ! Asked (λ asked. split ! $ move ! (1 ∷ []) $
    fsplit ! $ fsplit ! $ drop ! $ move ! (1 ∷ []) $ drop ! $ opened ! n x.count x.first asked (λ m l more lies. fsplit ! $
    let b = l.object in let o = l.at in let start : Ptr = block_ptr b o in let next = l.next in
    regoal ! (λ (us : List Val). prop (WpFn 𝓤 H C Λ fn us Post)) (λ i. (one_told x.first vss.0 are.0.0 ∙ ap (λ (p : Ptr). one_val p ∷ []) lies) i ++ []) refl $
    enter ! C Λ fn (one_val start ∷ []) Post $
    alloc_all ! (λ l. pass_all ! refl ((tt, (tt, tt)), tt) $ let En : Env 𝓤 𝓛.H = env fn.locals l in
    sets ! (of_opd ! (get_in ! (fld ! refl (stop !)) (sub ! 0 refl (whole !)))) refl (tt, tt) $
    first ! $ blocks ! $
    sets ! (of_opd ! (get ! refl)) refl (tt, tt) $
    sets_last ! (of_opd ! (load ! (through ! refl (stop !)) (look ! 0 refl))) refl (ptr_typed next) $
    exec ! C Λ En (after 2 fn.body) (at_ret En Post) $
    sets ! (of_opd ! (get ! refl)) refl (ptr_typed next) $
    sets ! (agg ! (and_then ! (get ! refl) (no_more !))) refl (tt, (tt, tt)) $
    sets ! (agg ! (and_then ! (get ! refl) (no_more !))) refl (and_tt _ ((ptr_typed next).0), ((ptr_typed next).1, tt)) $
    sets ! (agg ! (and_then ! (get ! refl) (and_then ! (get ! refl) (no_more !)))) refl (and_tt _ (and_tt _ ((ptr_typed next).0)), ((tt, tt), (((ptr_typed next).1, tt), tt))) $
    returns ! (look_at ! 0 refl) $ free_all ! refl $
    let u : (bytes.the_row).Denot = record { ptr = start; size = n } in
    let v : (chain.the_row).Denot = record { first = next; size = n; count = m } in
    let Said : Type 0 = (n ≡ n) × (n ≡ n) × (m + 1 ≡ x.count) in
    use1 𝓛 (‵ (froom ty_ptr b o)) (𝓛.laws.at_room ty_ptr b o (ptr_val next)) $
    use2 𝓛 (‵ (bytes_at start n)) (apply∗ 𝓤 (H.room ty_ptr b o) (sem 𝓛 (bytes_at start n))) $
    use0 𝓛 (‵ (one_own start (one_val start ∷ []))) (one_made 𝓛 start) $ fjoin ! $ move ! (1 ∷ []) $
    use0 𝓛 (‵ (one_own next (one_val next ∷ []))) (one_made 𝓛 next) $ fjoin ! $ move ! (1 ∷ 0 ∷ []) $
    use2 𝓛 (‵ ((Tuple (bytes.the_row ∷ chain.the_row ∷ [])).own_val (u, v) (pair_val (one_val start) (one_val next) ∷ []))) (pair_of 𝓛 bytes.the_row chain.the_row u v (one_val start) (one_val next)) $
    use0 𝓛 (raw (fact 𝓤 Said)) (fact_i 𝓤 Said (emp 𝓤) (refl, refl, omega (arith, more))) $ nothing ! $ nothing ! $ fjoin ! $ move ! (3 ∷ 0 ∷ 2 ∷ 1 ∷ []) $
    by ! (leaves 𝓛 ended stayed c z (pair_val (one_val start) (one_val next)) (u, v) (tt, tt) (tt, tt))))))
