use Rattle.std.proofs.Common.{◌≡◌, ◌∙◌, ◌+◌, ◌++◌, List, map, ltb, ap, sym, arith}
use Rattle.std.proofs.lemmas.List.{length-map}
use Rattle.pe_set.specs.Placement.{Placement, placement_at}
use Rattle.pe_space.specs.declared.by_base.NumberAt.{NumberAt}
use Rattle.pe_space.proofs.Asked.{own_at}
use Rattle.pe_space.proofs.Judged.{none_left}
use Rattle.pe_space.proofs.Ordering.{near_one, all_left, own_behind, left_parts, left_has, other_found, none_found}
use Rattle.pe_space.proofs.address_ranges.overlaps_another.Goals as goal

pub loop-at-init : goal.loop-at-init
loop-at-init g c = (
  c.at_most.result.now,
  record { held = c.at_most.ensures.held; all = c.at_most.ensures.all; ascend = c.at_most.ensures.ascend },
  all_left c.args.number c.at_most.result.now c.into_iter-at-iterator.result.iter.rest.now
      (ap (λ x. x.iter.rest.now) c.into_iter-at-iterator.ensures.into_iter_gives ∙ ap (λ x. x.rest.now) c.rev-at-items.ensures.source ∙ c.iter.ensures.rest),
)

pub loop-at-preserved : goal.loop-at-preserved
loop-at-preserved g c =
    let near = c.loop-at.invariant.0 in
    (near, c.loop-at.invariant.1, own_behind c.args.number near c.loop-at.at-iterator.iter.rest.now c.next.new.self.iter.rest.now c.in-Some.at.now c.loop-at.invariant.2 c.in-Some.ensures.steps c.if-at-number.false)

pub offset_bounds-images-at : goal.offset_bounds-images-at
offset_bounds-images-at g c =
    let place = g.P.Placed.placement in
    let ps = map place c.args.images.now in
    let near = c.loop-at.invariant.0 in
    let held = left_has c.args.number near c.loop-at.at-iterator.iter.rest.now c.next.new.self.iter.rest.now c.in-Some.at.now c.loop-at.invariant.2 c.in-Some.ensures.steps in
    let is = near_one ps c.args.order.now near _ c.requires.order c.requires.apart c.loop-at.invariant.1 c.in-Some.at.now held in
    omega (arith, is.place, length-map c.args.images.now place)

pub bounds-images-at : goal.bounds-images-at
bounds-images-at g c =
    let place = g.P.Placed.placement in
    let ps = map place c.args.images.now in
    let near = c.loop-at.invariant.0 in
    let held = left_has c.args.number near c.loop-at.at-iterator.iter.rest.now c.next.new.self.iter.rest.now c.in-Some.at.now c.loop-at.invariant.2 c.in-Some.ensures.steps in
    let is = near_one ps c.args.order.now near _ c.requires.order c.requires.apart c.loop-at.invariant.1 c.in-Some.at.now held in
    omega (arith, is.place, length-map c.args.images.now place)

pub returns-then-at-number : goal.returns-then-at-number
returns-then-at-number g c =
    let place = g.P.Placed.placement in
    let ps = map place c.args.images.now in
    let so_far = c.loop-at.invariant in
    let near = so_far.0 in
    let at = c.in-Some.at.now in
    let rest = c.next.new.self.iter.rest.now in
    let parts = left_parts c.args.number near c.loop-at.at-iterator.iter.rest.now rest at so_far.2 c.in-Some.ensures.steps in
    let held = left_has c.args.number near c.loop-at.at-iterator.iter.rest.now rest at so_far.2 c.in-Some.ensures.steps in
    let is = near_one ps c.args.order.now near _ c.requires.order c.requires.apart so_far.1 at held in
    let own = own_at place c.args.images.now c.index-images-at.result at.number (omega (arith, is.place, length-map c.args.images.now place)) c.index-images-at.is in
    let end : c.end.result ≡ (placement_at ps at.number).base + (placement_at ps at.number).size = c.end.ensures ∙ ap (λ (p : Placement). p.base + p.size) (sym own) in
    ap (λ n. ltb n c.end.result) c.from-then-at-number.ensures
    ∙ ap (ltb c.args.base) end
    ∙ other_found ps c.args.order.now near _ c.requires.order c.requires.apart so_far.1 c.args.number c.args.base c.args.size c.requires.some (omega (arith, c.requires.some, c.from.ensures)) so_far.2.behind so_far.2.own at rest parts c.if-at-number.true

pub returns : goal.returns
returns g c =
    let ps = map g.P.Placed.placement c.args.images.now in
    let so_far = c.loop-at.invariant in
    let all = so_far.2.parts ∙ ap (λ (l : List NumberAt). l ++ so_far.2.behind) (none_left c.loop-at.at-iterator.iter.rest.now c.in-None.ensures.steps.0) in
    none_found ps c.args.order.now so_far.0 _ c.requires.order c.requires.apart so_far.1 c.args.number c.args.base c.args.size c.requires.some (omega (arith, c.requires.some, c.from.ensures)) so_far.2.behind so_far.2.own all
