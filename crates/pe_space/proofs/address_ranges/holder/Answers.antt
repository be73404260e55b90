use Rattle.std.proofs.Common.{◌∙◌, ◌+◌, ◌-◌, ◌<◌, ◌≤◌, length, map, ap, sym, subst, arith}
use Rattle.std.proofs.lemmas.List.{length-map}
use borrow.Author.Tests.{ltb-true}
use Rattle.std.specs.Option.{option_copied}
use Rattle.pe_set.specs.Placement.{Placement, placement_at}
use Rattle.pe_space.proofs.Asked.{own_at}
use Rattle.pe_space.proofs.Ordering.{AreUpTo, none_last, none_near, near_one, last_holds, last_misses}
use Rattle.pe_space.proofs.address_ranges.holder.Goals as goal

pub returns-in_err-number-clause-holder : goal.returns-in_err-number-clause-holder
returns-in_err-number-clause-holder g c =
    let ps = map g.P.Placed.placement c.args.images.now in
    let near = c.at_most.result.now in
    let up_to : AreUpTo c.args.order.now near c.args.address = record { held = c.at_most.ensures.held; all = c.at_most.ensures.all; ascend = c.at_most.ensures.ascend } in
    c.from_residual.ensures
    ∙ sym (none_near ps c.args.order.now near c.args.address c.requires.order c.requires.apart up_to (none_last near (sym c.last.ensures.value ∙ ap option_copied c.in_err-number.was)))

pub offset_bounds-images-number : goal.offset_bounds-images-number
offset_bounds-images-number g c =
    let ps = map g.P.Placed.placement c.args.images.now in
    let near = c.at_most.result.now in
    let up_to : AreUpTo c.args.order.now near c.args.address = record { held = c.at_most.ensures.held; all = c.at_most.ensures.all; ascend = c.at_most.ensures.ascend } in
    let item = c.in_ok-number.ensures.item in
    let some = ltb-true 0 (length near) (sym item.0) in
    let is = near_one ps c.args.order.now near c.args.address c.requires.order c.requires.apart up_to c.in_ok-number.field-0.now (length near - 1, omega (arith, some), sym item.1) in
    omega (arith, is.place, length-map c.args.images.now g.P.Placed.placement)

pub bounds-images-number : goal.bounds-images-number
bounds-images-number g c =
    let ps = map g.P.Placed.placement c.args.images.now in
    let near = c.at_most.result.now in
    let up_to : AreUpTo c.args.order.now near c.args.address = record { held = c.at_most.ensures.held; all = c.at_most.ensures.all; ascend = c.at_most.ensures.ascend } in
    let item = c.in_ok-number.ensures.item in
    let some = ltb-true 0 (length near) (sym item.0) in
    let is = near_one ps c.args.order.now near c.args.address c.requires.order c.requires.apart up_to c.in_ok-number.field-0.now (length near - 1, omega (arith, some), sym item.1) in
    omega (arith, is.place, length-map c.args.images.now g.P.Placed.placement)

pub returns-then-from-end-clause-holder : goal.returns-then-from-end-clause-holder
returns-then-from-end-clause-holder g c =
    let place = g.P.Placed.placement in
    let ps = map place c.args.images.now in
    let near = c.at_most.result.now in
    let at = c.in_ok-number.field-0.now in
    let up_to : AreUpTo c.args.order.now near c.args.address = record { held = c.at_most.ensures.held; all = c.at_most.ensures.all; ascend = c.at_most.ensures.ascend } in
    let item = c.in_ok-number.ensures.item in
    let some = ltb-true 0 (length near) (sym item.0) in
    let is = near_one ps c.args.order.now near c.args.address c.requires.order c.requires.apart up_to at (length near - 1, omega (arith, some), sym item.1) in
    let own = own_at place c.args.images.now c.index-images-number.result at.number (omega (arith, is.place, length-map c.args.images.now place)) c.index-images-number.is in
    let end : c.args.address < (placement_at ps at.number).base + (placement_at ps at.number).size = subst (λ (p : Placement). c.args.address < p.base + p.size) (sym own) (omega (arith, c.if-from-end.true, c.end.ensures, c.from.ensures)) in
    sym (last_holds ps c.args.order.now near c.args.address c.requires.order c.requires.apart up_to at (length near - 1) (omega (arith, some)) (sym item.1) end)

pub returns-then-from-end-clause-inside : goal.returns-then-from-end-clause-inside
returns-then-from-end-clause-inside g c =
    let ps = map g.P.Placed.placement c.args.images.now in
    let near = c.at_most.result.now in
    let up_to : AreUpTo c.args.order.now near c.args.address = record { held = c.at_most.ensures.held; all = c.at_most.ensures.all; ascend = c.at_most.ensures.ascend } in
    let item = c.in_ok-number.ensures.item in
    let some = ltb-true 0 (length near) (sym item.0) in
    let is = near_one ps c.args.order.now near c.args.address c.requires.order c.requires.apart up_to c.in_ok-number.field-0.now (length near - 1, omega (arith, some), sym item.1) in
    omega (arith, is.place, length-map c.args.images.now g.P.Placed.placement)

pub returns-else-from-end-clause-holder : goal.returns-else-from-end-clause-holder
returns-else-from-end-clause-holder g c =
    let place = g.P.Placed.placement in
    let ps = map place c.args.images.now in
    let near = c.at_most.result.now in
    let at = c.in_ok-number.field-0.now in
    let up_to : AreUpTo c.args.order.now near c.args.address = record { held = c.at_most.ensures.held; all = c.at_most.ensures.all; ascend = c.at_most.ensures.ascend } in
    let item = c.in_ok-number.ensures.item in
    let some = ltb-true 0 (length near) (sym item.0) in
    let is = near_one ps c.args.order.now near c.args.address c.requires.order c.requires.apart up_to at (length near - 1, omega (arith, some), sym item.1) in
    let own = own_at place c.args.images.now c.index-images-number.result at.number (omega (arith, is.place, length-map c.args.images.now place)) c.index-images-number.is in
    let end : (placement_at ps at.number).base + (placement_at ps at.number).size ≤ c.args.address = subst (λ (p : Placement). p.base + p.size ≤ c.args.address) (sym own) (omega (arith, c.if-from-end.false, c.end.ensures, c.from.ensures)) in
    sym (last_misses ps c.args.order.now near c.args.address c.requires.order c.requires.apart up_to at (length near - 1) (omega (arith, some)) (sym item.1) end)
