-- `deallocate` turns the room into the block again, and gives it to the heap. Assumes `Logic`.
use Rattle.std.proofs.Common.{◌≡◌, ◌^◌, ◌<◌, List, [], ◌∷◌, ◌++◌, refl, sym, ap, ◌∙◌, arith, w64}
use mir.Syntax.{Ty, Fn}
use mir.Val.{Val, vint, vptr, vunit}
use base.Logic.{SProp, emp, never, id⊢, apply∗}
use base.Fml.{ftrue, fsep}
use prog.Memory.{size, align, capped}
use prog.Capped.{capped_is}
use prog.Wp.{Env, WpFn}
use contract.Monad.{fact, fact_i}
use contract.Running.{tables}
use types.Logic.{sem}
use types.Kit.{‵, raw, ◌⊛◌, some, later, prop, ◌$◌, ◌∵◌, !, qed, by, move, keep, drop, use0, use1, use2, split, split3, join, pick, rewrite, regoal, fsplit, fjoin, fpick, feq_l, feq_i, flt_i, await}
use types.Part.{agg}
use types.Run.{unit_lit, of_opd, no_more, and_then, returns, enter}
use types.ByLocal.{alloc_all, pass_all, free_all, look_at, get, sets, lands_as, env}
use denote.Builtin.{unit}
use denote.Memory.{hidden_shr}
use denote.RattleType.{owns}
use denote.RawPtr.{Ptr, block_ptr, ptr_val, room_for, in_a_block}
use denote.Ref.{bor_shr_at}
use denote.Signature.{types_at}
use denote.Steps.{nothing, only, heard}
use denote.Triple.Call.{calls_at}
use denote.Triple.Entry.{alive}
use denote.Triple.Spec.{triple_of}
use denote.Triple.Clauses.{Lasts, lasts}
use denote.Triple.Walked.{Stays, stay_dropped, walk_of, Goes-dropped}
use Rattle.core.proofs.atomic.Steps.{fm}
use Rattle.std.proofs.raw_atomic.Walks.{proved_at, leaves}
use Rattle.page_heap.proofs.Values.{one_val, one_own, one_made}
use Rattle.page_heap.proofs.Walks.{parameter}
use Rattle.page_heap.specs.Class.{block_size}
use Rattle.page_heap.specs.Ownership.{bytes_at, block_token}
use Rattle.page_heap.specs.contracts.bytes.Bytes as block
use Rattle.page_heap.specs.contracts.heap.PageHeap as heap
use Rattle.page_heap.specs.contracts.heap.PageHeap.give as callee
use Rattle.page_heap.proofs.heap.PageHeap.give.Met.{met as gives}
use Rattle.page_heap.specs.contracts.heap.PageHeapAllocator.deallocate.{ended, clauses}
use Rattle.page_heap.specs.contracts.heap.PageHeapAllocator.deallocate.Key.{name}
use Rattle.page_heap.proofs.heap.PageHeapAllocator.deallocate.Statement.{statement}
use Rattle.page_heap.proofs.heap.PageHeapAllocator.deallocate.Code as compiled

abbrev stayed : Stays ended.signature.params ended.kept
stayed = (stay_dropped (parameter 0 ended.signature.params) ended.kept.0, (stay_dropped (parameter 1 ended.signature.params) ended.kept.1.0, (stay_dropped (parameter 2 ended.signature.params) ended.kept.1.1.0, (stay_dropped (parameter 3 ended.signature.params) ended.kept.1.1.1.0, tt))))

pub deallocate_spec : {M : Type 1} → statement M
deallocate_spec 𝓤 𝓛 𝓜 𝓡 wired =
    let H = 𝓛.H in
    let c = clauses 𝓛 𝓜.mem 𝓡.returns in
    let fn : Fn = compiled.function in
    let C = (tables 𝓤 H 𝓜 𝓡 𝓡.env).C in
    let Λ = (tables 𝓤 H 𝓜 𝓡 𝓡.env).Λ in
    proved_at 𝓛 ended stayed c 𝓜 𝓡 (Goes-dropped 𝓛 1 (parameter 0 ended.signature.params) ended.kept.0 (λ κs x f. refl), (Goes-dropped 𝓛 1 (parameter 1 ended.signature.params) ended.kept.1.0 (λ κs x f. refl), (Goes-dropped 𝓛 1 (parameter 2 ended.signature.params) ended.kept.1.1.0 (λ κs x f. refl), (Goes-dropped 𝓛 1 (parameter 3 ended.signature.params) ended.kept.1.1.1.0 (λ κs x f. refl), tt)))) name fn (compiled.unfolded 𝓤 H 𝓜 𝓡 wired) (λ z are.
    let Post : Val → SProp 𝓤 = (walk_of 𝓛 ended stayed c).post z in
    let a = z.0.3 in
    let vss = z.0.4 in
    let τ : Ty = z.1 in
    let from = a.1.0 in
    let n = a.1.1.0 in
    let al = a.1.1.1.0 in
    let me : Val = vptr a.0.ref_ptr.0 a.0.ref_ptr.1 in
    let k = triple_of 𝓛 callee.signature (callee.spec 𝓛 𝓜.mem 𝓡.returns) in
    let Asked : Type 0 = (capped (size τ) ≡ n) × (capped (align τ) ≡ al) in
    qed 𝓛 ((raw (alive 𝓛 ended.signature z.0.0 z.0.1) ⊛ ‵ (owns (types_at ended.signature.params z.0.0) a vss)) ∷ (raw (fact 𝓤 Asked) ⊛ ‵ (room_for τ from) ⊛ ‵ (block_token τ from)) ∷ []) ∵
    move ! (1 ∷ []) $ split3 ! $ heard ! Asked (λ asked. move ! (1 ∷ []) $ fpick ! (λ short. move ! (1 ∷ 0 ∷ []) $
    use2 𝓛 (‵ (bytes_at from (block_size (size τ)))) (apply∗ 𝓤 (sem 𝓛 (room_for τ from)) (sem 𝓛 (bytes_at from (block_size (size τ))))) $
    in_a_block ! from (λ p. bytes_at p (block_size (size τ))) (id⊢ 𝓤 (never 𝓤)) (λ b o lies.
    let p : Ptr = block_ptr b o in
    let same : size τ ≡ n = sym (capped_is (size τ) (omega arith)) ∙ asked.0 in
    rewrite ! 0 (λ (s : _). ‵ (bytes_at p (block_size s))) same refl $
    move ! (1 ∷ []) $ split ! $ move ! (1 ∷ []) $ fsplit ! $ keep ! (0 ∷ 2 ∷ 3 ∷ []) $
    -- what the reference owns, the tokens and the bytes
    regoal ! (λ (us : List Val). prop (WpFn 𝓤 H C Λ fn us Post)) (λ i. are.0.0 i ++ ((are.1.0 ∙ ap (λ (u : Ptr). ptr_val u ∷ []) lies) i ++ (are.1.1.0.0 i ++ (are.1.1.1.0.0 i ++ [])))) refl $
    enter ! C Λ fn (me ∷ vptr b o ∷ vint w64 n ∷ vint w64 al ∷ []) Post $
    alloc_all ! (λ l. pass_all ! refl ((tt, tt), ((tt, tt), ((tt, record { fits = are.1.1.0.1 }), ((tt, record { fits = are.1.1.1.0.1 }), tt)))) $ let En : Env 𝓤 𝓛.H = env fn.locals l in
    sets ! (agg ! (and_then ! (get ! refl) (no_more !))) refl (tt, (tt, tt)) $
    let x : (block.the_row).Denot = record { ptr = p; size = block_size n } in
    let y : k.Ghost = ((z.0.0, z.0.1, z.0.2, (a.0, (x, (n, tt))), (me ∷ [], (one_val p ∷ [], (vint w64 n ∷ [], tt)))), tt) in
    let Fits : Type 0 = (x.size ≡ block_size n) × (n < 2 ^ 63) in
    rewrite ! 0 (λ (us : List Val). ‵ (fsep (bor_shr_at a.0 us) (hidden_shr heap.the_row z.0.0.0 a.0.now a.0.ref_ptr.0 a.0.ref_ptr.1))) are.0.0 refl $
    nothing ! $ flt_i ! n (2 ^ 64) are.1.1.0.1 $ feq_i ! (List Val) (vint w64 n ∷ []) (vint w64 n ∷ []) refl $ fjoin ! $ fjoin ! $ move ! (3 ∷ []) $
    use0 𝓛 (‵ (one_own p (one_val p ∷ []))) (one_made 𝓛 p) $ fjoin ! $ fjoin ! $ move ! (1 ∷ 0 ∷ []) $ fjoin ! $ move ! (1 ∷ 0 ∷ []) $ join ! $
    use0 𝓛 (raw (fact 𝓤 Fits)) (fact_i 𝓤 Fits (emp 𝓤) (refl, omega (arith, same))) $ move ! (1 ∷ 0 ∷ []) $ join ! $ use1 𝓛 (raw (k.pre y)) (id⊢ 𝓤 _) $
    calls_at ! (fm 𝓛 𝓜 𝓡) k (gives 𝓤 𝓛 𝓜 𝓡 (compiled.calls-page_heap::heap::PageHeap::give 𝓡.env wired)) y (and_then ! (get ! refl) (and_then ! (get ! refl) (and_then ! (get ! refl) (no_more !)))) (λ v.
    use1 𝓛 (later (some (λ (t : Unit {0}). (raw (alive 𝓛 ended.signature z.0.0 z.0.1) ⊛ ‵ (unit.own_val t (v ∷ []))) ⊛ some (λ (ls : Lasts callee.ended z.0.0 y.0.3). ‵ (lasts callee.ended z.0.0 y.0.3 ls) ⊛ ‵ ftrue)))) (id⊢ 𝓤 (k.post y v)) $
    await ! tt $ pick ! (λ t. split ! $ move ! (1 ∷ []) $ drop ! $ split ! $ move ! (1 ∷ []) $ feq_l ! (λ is. lands_as ! (ap only is) refl (tt, tt) $
    sets ! (of_opd ! (unit_lit !)) refl (tt, tt) $
    returns ! (look_at ! 0 refl) $ free_all ! refl $
    feq_i ! (List Val) (vunit ∷ []) (vunit ∷ []) refl $ nothing ! $ nothing ! $ nothing ! $ fjoin ! $ nothing ! $ fjoin ! $ nothing ! $ fjoin ! $ nothing ! $ fjoin ! $ move ! (3 ∷ 0 ∷ 2 ∷ 1 ∷ []) $
    by ! (leaves 𝓛 ended stayed c z vunit tt (tt, (tt, (tt, (tt, tt)))) (tt, (tt, (tt, (tt, tt)))))))))))))
