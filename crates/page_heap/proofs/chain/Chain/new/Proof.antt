-- `new` makes the chain of no blocks. Assumes `Logic`.
use Rattle.std.proofs.Common.{◌≡◌, List, [], ◌∷◌, ◌++◌, refl, lit<, w64}
use mir.Syntax.{Fn}
use mir.Val.{Val, vint}
use base.Logic.{SProp, emp}
use base.Fml.{ftrue}
use prog.Wp.{WpFn}
use contract.Monad.{fact, fact_i}
use contract.Running.{tables}
use types.Kit.{‵, raw, ◌⊛◌, prop, ◌$◌, ◌∵◌, !, qed, by, move, drop, use0, split, regoal, fjoin}
use types.Part.{agg}
use types.Run.{lit, no_more, and_then, returns, enter}
use types.ByLocal.{alloc_all, pass_all, free_all, look_at, sets}
use denote.Builtin.{usize}
use denote.RattleType.{owns}
use denote.RawPtr.{null_ptr}
use denote.Signature.{plain, types_at}
use denote.Steps.{nothing}
use denote.Triple.Entry.{alive}
use denote.Triple.Walked.{Stays, stay_dropped, walk_of, Goes-dropped}
use Rattle.std.proofs.raw_atomic.Walks.{proved_at, leaves}
use Rattle.page_heap.proofs.Values.{one_val, one_own, one_made}
use Rattle.page_heap.specs.contracts.chain.Chain as chain
use Rattle.page_heap.specs.contracts.chain.Chain.new.{ended, clauses}
use Rattle.page_heap.specs.contracts.chain.Chain.new.Key.{name}
use Rattle.page_heap.proofs.chain.Chain.new.Statement.{statement}
use Rattle.page_heap.proofs.chain.Chain.new.Code as compiled

abbrev stayed : Stays ended.signature.params ended.kept
stayed = (stay_dropped _ ended.kept.0, tt)

pub new_spec : {M : Type 1} → statement M
new_spec 𝓤 𝓛 𝓜 𝓡 wired =
    let H = 𝓛.H in
    let c = clauses 𝓛 𝓜.mem 𝓡.returns in
    let fn : Fn = compiled.function in
    let C = (tables 𝓤 H 𝓜 𝓡 𝓡.env).C in
    let Λ = (tables 𝓤 H 𝓜 𝓡 𝓡.env).Λ in
    proved_at 𝓛 ended stayed c 𝓜 𝓡 (Goes-dropped 𝓛 0 (plain (λ _. usize)) ended.kept.0 (λ κs x f. refl), tt) name fn (compiled.unfolded 𝓤 H 𝓜 𝓡 wired) (λ z are.
    let Post : Val → SProp 𝓤 = (walk_of 𝓛 ended stayed c).post z in
    let a = z.0.3 in
    let vss = z.0.4 in
    let n = a.0 in
    let x : (chain.the_row).Denot = record { first = null_ptr; size = n; count = 0 } in
    let Said : Type 0 = (n ≡ n) × (x.count ≡ 0) in
    qed 𝓛 ((raw (alive 𝓛 ended.signature z.0.0 z.0.1) ⊛ ‵ (owns (types_at ended.signature.params z.0.0) a vss)) ∷ ‵ ftrue ∷ []) ∵
    move ! (1 ∷ []) $ drop ! $ split ! $ move ! (1 ∷ []) $ drop ! $
    regoal ! (λ (us : List Val). prop (WpFn 𝓤 H C Λ fn us Post)) (λ i. are.0.0 i ++ []) refl $
    enter ! C Λ fn (vint w64 n ∷ []) Post $
    alloc_all ! (λ l. pass_all ! refl ((tt, record { fits = are.0.1 }), tt) $
    sets ! (agg ! (and_then ! (lit ! tt) (no_more !))) refl (tt, (record { fits = lit< tt }, tt)) $
    returns ! (look_at ! 0 refl) $ free_all ! refl $
    nothing ! $ use0 𝓛 (‵ (one_own null_ptr (one_val null_ptr ∷ []))) (one_made 𝓛 null_ptr) $ fjoin ! $
    use0 𝓛 (raw (fact 𝓤 Said)) (fact_i 𝓤 Said (emp 𝓤) (refl, refl)) $ nothing ! $ nothing ! $ fjoin ! $ move ! (3 ∷ 0 ∷ 2 ∷ 1 ∷ []) $
    by ! (leaves 𝓛 ended stayed c z (one_val null_ptr) x (tt, tt) (tt, tt))))
