use Rattle.std.proofs.Common.{◌≡◌, ◌∙◌, ◌+◌, length, map, ap, sym, subst, arith}
use Rattle.std.proofs.lemmas.List.{with_items_is, length-map}
use Rattle.pe_space.specs.ByBase.{IsByBase}
use Rattle.pe_set.specs.Placement.{Placement, placement_at}
use Rattle.pe_space.proofs.Asked.{own_at}
use Rattle.pe_space.proofs.Ordering.{AreFirst, first_more, first_all}
use Rattle.pe_space.proofs.by_base.by_base.Goals as goal

pub returns-clause-order : goal.returns-clause-order
returns-clause-order g c =
    let ps = map g.P.Placed.placement c.args.images.now in
    let count = length-map c.args.images.now g.P.Placed.placement in
    let all : c.loop-index.index ≡ length ps = omega (arith, c.loop-index-test.false, c.loop-index.auto.index-end, count) in
    let first : AreFirst ps (length ps) c.as_mut_slice.result.now = subst (λ n. AreFirst ps n c.as_mut_slice.result.now) all (subst (AreFirst ps c.loop-index.index) (sym c.as_mut_slice.ensures.value) c.loop-index.invariant) in
    subst (IsByBase ps) (sym (with_items_is c.loop-index.order c.put_in_order.new.items (c.put_in_order.auto.items ∙ c.as_mut_slice.ensures.len)))
    (first_all ps c.as_mut_slice.result.now c.put_in_order.new.items first c.put_in_order.ensures)

pub loop-index-preserved : goal.loop-index-preserved
loop-index-preserved g c =
    let place = g.P.Placed.placement in
    let ps = map place c.args.images.now in
    let k = c.loop-index.index in
    let base : c.base.result ≡ (placement_at ps k).base = c.base.ensures ∙ ap (λ (p : Placement). p.base) (sym (own_at place c.args.images.now c.index-images-index.result k c.loop-index-test.true c.index-images-index.is)) in
    subst (AreFirst ps (k + 1)) (sym c.in_ok-push.ensures.items)
    (first_more ps k c.loop-index.order.items (record { base = c.base.result; number = k }) c.loop-index.invariant (ap (λ n. record { base = n; number = k }) base))

pub returns-in_err-order-clause-empty : goal.returns-in_err-order-clause-empty
returns-in_err-order-clause-empty g c = λ none. let made = c.in_err-order.ensures.succeeds none in absurd cc

pub returns-in_err-push-clause-empty : goal.returns-in_err-push-clause-empty
returns-in_err-push-clause-empty g c = λ none. absurd (omega (arith, c.loop-index-test.true))
