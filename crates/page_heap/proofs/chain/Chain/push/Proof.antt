-- `push` writes the address of the next block to the front of this one. Assumes `Logic`.
use Rattle.std.proofs.Common.{◌≡◌, suc, ◌+◌, ◌%◌, ◌≤◌, List, [], ◌∷◌, ◌++◌, refl, ap, ◌∙◌, arith}
use mir.Syntax.{Fn, ty_ptr}
use mir.Val.{Val}
use base.Logic.{SProp, emp, never, id⊢}
use base.Fml.{fex, fsep, froom}
use prog.Wp.{Env, WpFn}
use contract.Monad.{fact, fact_i}
use contract.Running.{tables}
use types.Kit.{‵, raw, ◌⊛◌, prop, at_ret, ◌$◌, ◌∵◌, !, qed, by, move, drop, use0, use1, split, rewrite, regoal, fsplit, fjoin, fpack}
use types.Part.{whole, sub, agg}
use types.Run.{stop, fld, init, of_opd, no_more, and_then, assigns_last, first, blocks, exec, returns, enter}
use types.ByLocal.{alloc_all, pass_all, free_all, look_at, get, get_in, through, sets, env}
use denote.RattleType.{owns}
use denote.RawPtr.{Ptr, block_ptr, in_a_block}
use denote.Signature.{plain, types_at}
use denote.Steps.{nothing, heard}
use denote.Triple.Entry.{alive}
use denote.Triple.Walked.{Stays, stay_dropped, walk_of}
use Rattle.core.proofs.alloc.Calls.{Goes-blank}
use Rattle.core.proofs.alloc.Shapes.{after}
use Rattle.std_alloc.proofs.ResultValues.{and_tt}
use Rattle.std.proofs.raw_atomic.Walks.{proved_at, leaves}
use Rattle.page_heap.proofs.Units.{houses}
use Rattle.page_heap.proofs.Values.{ptr_typed, one_val, one_own, one_told, one_made}
use Rattle.page_heap.specs.Ownership.{bytes_at, Link, rest_of, freed, chain as linked}
use Rattle.page_heap.specs.contracts.bytes.Bytes as bytes
use Rattle.page_heap.specs.contracts.chain.Chain as chain
use Rattle.page_heap.specs.contracts.chain.Chain.push.{ended, clauses}
use Rattle.page_heap.specs.contracts.chain.Chain.push.Key.{name}
use Rattle.page_heap.proofs.chain.Chain.push.Statement.{statement}
use Rattle.page_heap.proofs.chain.Chain.push.Code as compiled

abbrev stayed : Stays ended.signature.params ended.kept
stayed = (stay_dropped _ ended.kept.0, (stay_dropped _ ended.kept.1.0, tt))

pub push_spec : {M : Type 1} → statement M
push_spec 𝓤 𝓛 𝓜 𝓡 wired =
    let H = 𝓛.H in
    let c = clauses 𝓛 𝓜.mem 𝓡.returns in
    let fn : Fn = compiled.function in
    let C = (tables 𝓤 H 𝓜 𝓡 𝓡.env).C in
    let Λ = (tables 𝓤 H 𝓜 𝓡 𝓡.env).Λ in
    proved_at 𝓛 ended stayed c 𝓜 𝓡 (Goes-blank 𝓛 0 (plain (λ _. chain.the_row)) ended.kept.0 (λ κs x f. tt), (Goes-blank 𝓛 0 (plain (λ _. bytes.the_row)) ended.kept.1.0 (λ κs x f. tt), tt)) name fn (compiled.unfolded 𝓤 H 𝓜 𝓡 wired) (λ z are.
    let Post : Val → SProp 𝓤 = (walk_of 𝓛 ended stayed c).post z in
    let a = z.0.3 in
    let vss = z.0.4 in
    let x = a.0 in
    let y = a.1.0 in
    let n = x.size in
    let next = x.first in
    let Asked : Type 0 = (y.size ≡ n) × (16 ≤ n) × (n % 16 ≡ 0) in
    qed 𝓛 ((raw (alive 𝓛 ended.signature z.0.0 z.0.1) ⊛ ‵ (owns (types_at ended.signature.params z.0.0) a vss)) ∷ raw (fact 𝓤 Asked) ∷ []) ∵
    move ! (1 ∷ []) $ heard ! Asked (λ asked. split ! $ move ! (1 ∷ []) $
    fsplit ! $ fsplit ! $ drop ! $ move ! (1 ∷ []) $ fsplit ! $ fsplit ! $ drop ! $ move ! (1 ∷ []) $ drop ! $
    in_a_block ! y.ptr (λ p. bytes_at p y.size) (id⊢ 𝓤 (never 𝓤)) (λ b o lies.
    let start : Ptr = block_ptr b o in
    rewrite ! 0 (λ (k : _). ‵ (bytes_at start k)) asked.0 refl $
    use1 𝓛 (‵ (froom ty_ptr b o) ⊛ ‵ (rest_of n (record { object = b; at = o; next = next }))) (houses 𝓛 b ty_ptr o n asked.2 (omega (arith, asked.1)) tt) $ split ! $
    regoal ! (λ (us : List Val). prop (WpFn 𝓤 H C Λ fn us Post)) (λ i. one_told next vss.0 are.0.0 i ++ ((one_told y.ptr vss.1.0 are.1.0.0 ∙ ap (λ (p : Ptr). one_val p ∷ []) lies) i ++ [])) refl $
    enter ! C Λ fn (one_val next ∷ one_val start ∷ []) Post $
    alloc_all ! (λ l. pass_all ! refl ((and_tt _ ((ptr_typed next).0), ((ptr_typed next).1, tt)), ((tt, (tt, tt)), tt)) $ let En : Env 𝓤 𝓛.H = env fn.locals l in
    sets ! (of_opd ! (get_in ! (fld ! refl (stop !)) (sub ! 0 refl (whole !)))) refl (ptr_typed next) $
    sets ! (of_opd ! (get_in ! (fld ! refl (stop !)) (sub ! 0 refl (whole !)))) refl (tt, tt) $
    first ! $ blocks ! $
    sets ! (of_opd ! (get ! refl)) refl (tt, tt) $
    assigns_last ! (of_opd ! (get ! refl)) (through ! refl (stop !)) (init ! 0 refl (ptr_typed next)) $
    exec ! C Λ En (after 3 fn.body) (at_ret En Post) $
    sets ! (agg ! (and_then ! (get ! refl) (no_more !))) refl (tt, (tt, tt)) $
    returns ! (look_at ! 0 refl) $ free_all ! refl $
    let l : Link = record { object = b; at = o; next = next } in
    let w : (chain.the_row).Denot = record { first = start; size = n; count = suc x.count } in
    let Said : Type 0 = (n ≡ n) × (suc x.count ≡ x.count + 1) in
    fjoin ! $ fjoin ! $ fpack ! (start ≡ block_ptr b o) (λ _. fsep (freed n l) (linked n x.count next)) refl $
    fpack ! Link (λ k. fex (start ≡ block_ptr k.object k.at) (λ _. fsep (freed n k) (linked n x.count k.next))) l $
    use0 𝓛 (‵ (one_own start (one_val start ∷ []))) (one_made 𝓛 start) $ fjoin ! $
    use0 𝓛 (raw (fact 𝓤 Said)) (fact_i 𝓤 Said (emp 𝓤) (refl, omega arith)) $ nothing ! $ nothing ! $ fjoin ! $ nothing ! $ fjoin ! $ move ! (3 ∷ 0 ∷ 2 ∷ 1 ∷ []) $
    by ! (leaves 𝓛 ended stayed c z (one_val start) w (tt, (tt, tt)) (tt, (tt, tt)))))))
