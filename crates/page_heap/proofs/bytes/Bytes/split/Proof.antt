-- `split` cuts the bytes at the pointer that it computes. Assumes `Logic`.
use Rattle.std.proofs.Common.{◌≡◌, ◌+◌, ◌-◌, ◌%◌, ◌≤◌, List, [], ◌∷◌, ◌++◌, refl, ap, ◌∙◌, arith, w64}
use mir.Syntax.{Fn}
use mir.Val.{Val, vint, vptr}
use base.Logic.{SProp, emp, never, id⊢}
use prog.Wp.{Env, WpFn}
use contract.Monad.{fact, fact_i}
use contract.Running.{tables}
use types.Kit.{‵, raw, ◌⊛◌, prop, at_ret, ◌$◌, ◌∵◌, !, qed, by, move, drop, use0, use1, use2, split, regoal, fsplit, fjoin}
use types.Part.{whole, sub, agg}
use types.Run.{stop, fld, bin, of_opd, no_more, and_then, first, blocks, exec, returns, enter}
use types.ByLocal.{alloc_all, pass_all, free_all, look_at, get, get_in, sets, sets_last, is, env}
use denote.RattleType.{owns}
use denote.RawPtr.{Ptr, block_ptr, in_a_block}
use denote.Builtin.{usize}
use denote.Signature.{plain, types_at}
use denote.Steps.{nothing, heard}
use denote.Struct.Tuple.{Tuple}
use denote.Triple.Entry.{alive}
use denote.Triple.Walked.{Stays, stay_dropped, walk_of, Goes-dropped}
use Rattle.core.proofs.alloc.Calls.{Goes-blank}
use Rattle.core.proofs.alloc.Shapes.{after}
use Rattle.std_alloc.proofs.Pairs.{pair_of, pair_val}
use Rattle.std.proofs.raw_atomic.Walks.{proved_at, leaves}
use Rattle.page_heap.proofs.Units.{cuts}
use Rattle.page_heap.proofs.Values.{one_val, one_own, one_told, one_made}
use Rattle.page_heap.specs.Ownership.{bytes_at}
use Rattle.page_heap.specs.contracts.bytes.Bytes as bytes
use Rattle.page_heap.specs.contracts.bytes.Bytes.split.{ended, clauses}
use Rattle.page_heap.specs.contracts.bytes.Bytes.split.Key.{name}
use Rattle.page_heap.proofs.bytes.Bytes.split.Statement.{statement}
use Rattle.page_heap.proofs.bytes.Bytes.split.Code as compiled

abbrev stayed : Stays ended.signature.params ended.kept
stayed = (stay_dropped _ ended.kept.0, (stay_dropped _ ended.kept.1.0, tt))

pub split_spec : {M : Type 1} → statement M
split_spec 𝓤 𝓛 𝓜 𝓡 wired =
    let H = 𝓛.H in
    let c = clauses 𝓛 𝓜.mem 𝓡.returns in
    let fn : Fn = compiled.function in
    let C = (tables 𝓤 H 𝓜 𝓡 𝓡.env).C in
    let Λ = (tables 𝓤 H 𝓜 𝓡 𝓡.env).Λ in
    proved_at 𝓛 ended stayed c 𝓜 𝓡 (Goes-blank 𝓛 0 (plain (λ _. bytes.the_row)) ended.kept.0 (λ κs x f. tt), (Goes-dropped 𝓛 0 (plain (λ _. usize)) ended.kept.1.0 (λ κs x f. refl), tt)) name fn (compiled.unfolded 𝓤 H 𝓜 𝓡 wired) (λ z are.
    let Post : Val → SProp 𝓤 = (walk_of 𝓛 ended stayed c).post z in
    let a = z.0.3 in
    let vss = z.0.4 in
    let x = a.0 in
    let n = x.size in
    let at = a.1.0 in
    let fits = are.1.0.1 in
    qed 𝓛 ((raw (alive 𝓛 ended.signature z.0.0 z.0.1) ⊛ ‵ (owns (types_at ended.signature.params z.0.0) a vss)) ∷ (raw (fact 𝓤 (at % 16 ≡ 0)) ⊛ raw (fact 𝓤 (at ≤ n))) ∷ []) ∵
    move ! (1 ∷ []) $ split ! $ heard ! (at % 16 ≡ 0) (λ even. heard ! (at ≤ n) (λ less. split ! $ move ! (1 ∷ []) $
    fsplit ! $ fsplit ! $ drop ! $ move ! (1 ∷ []) $ drop ! $ in_a_block ! x.ptr (λ p. bytes_at p n) (id⊢ 𝓤 (never 𝓤)) (λ b o lies.
    let start : Ptr = block_ptr b o in let behind : Ptr = block_ptr b (o + at) in
    use1 𝓛 (‵ (bytes_at start at) ⊛ ‵ (bytes_at behind (n - at))) (cuts 𝓛 b o at n even less) $ split ! $
    regoal ! (λ (us : List Val). prop (WpFn 𝓤 H C Λ fn us Post)) (λ i. (one_told x.ptr vss.0 are.0.0 ∙ ap (λ (p : Ptr). one_val p ∷ []) lies) i ++ (are.1.0.0 i ++ [])) refl $
    enter ! C Λ fn (one_val start ∷ vint w64 at ∷ []) Post $
    alloc_all ! (λ l. pass_all ! refl ((tt, (tt, tt)), ((tt, record { fits = fits }), tt)) $ let En : Env 𝓤 𝓛.H = env fn.locals l in
    sets ! (of_opd ! (get_in ! (fld ! refl (stop !)) (sub ! 0 refl (whole !)))) refl (tt, tt) $
    first ! $ blocks ! $
    sets_last ! (is ! (bin ! (get ! refl) (get ! refl) tt) (ap (vptr b) (omega arith))) refl (tt, tt) $
    exec ! C Λ En (after 2 fn.body) (at_ret En Post) $
    sets ! (of_opd ! (get ! refl)) refl (tt, tt) $
    sets ! (agg ! (and_then ! (get ! refl) (no_more !))) refl (tt, (tt, tt)) $
    sets ! (agg ! (and_then ! (get ! refl) (no_more !))) refl (tt, (tt, tt)) $
    sets ! (agg ! (and_then ! (get ! refl) (and_then ! (get ! refl) (no_more !)))) refl (tt, ((tt, tt), ((tt, tt), tt))) $
    returns ! (look_at ! 0 refl) $ free_all ! refl $
    let u : (bytes.the_row).Denot = record { ptr = start; size = at } in
    let v : (bytes.the_row).Denot = record { ptr = behind; size = n - at } in
    let Said : Type 0 = (at ≡ at) × (at + (n - at) ≡ n) in
    use0 𝓛 (‵ (one_own start (one_val start ∷ []))) (one_made 𝓛 start) $ fjoin ! $ move ! (1 ∷ []) $
    use0 𝓛 (‵ (one_own behind (one_val behind ∷ []))) (one_made 𝓛 behind) $ fjoin ! $ move ! (1 ∷ 0 ∷ []) $
    use2 𝓛 (‵ ((Tuple (bytes.the_row ∷ bytes.the_row ∷ [])).own_val (u, v) (pair_val (one_val start) (one_val behind) ∷ []))) (pair_of 𝓛 bytes.the_row bytes.the_row u v (one_val start) (one_val behind)) $
    use0 𝓛 (raw (fact 𝓤 Said)) (fact_i 𝓤 Said (emp 𝓤) (refl, omega arith)) $ nothing ! $ nothing ! $ fjoin ! $ nothing ! $ fjoin ! $ move ! (3 ∷ 0 ∷ 2 ∷ 1 ∷ []) $
    by ! (leaves 𝓛 ended stayed c z (pair_val (one_val start) (one_val behind)) (u, v) (tt, (tt, tt)) (tt, (tt, tt))))))))
