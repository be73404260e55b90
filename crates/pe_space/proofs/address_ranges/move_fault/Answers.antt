use Rattle.std.proofs.Common.{◌∙◌, true, false, length, map, ap, sym, arith}
use Rattle.std.proofs.lemmas.List.{length-map}
use borrow.Author.Tests.{ltb-true}
use Rattle.std.specs.List.{list_any}
use Rattle.pe_ranges.specs.Ranges.{meets}
use Rattle.pe_set.specs.Placement.{Placement, others_than}
use Rattle.pe_space.proofs.Asked.{own_at, move_asked, base_alone_some, base_alone_none, base_room}
use Rattle.pe_space.proofs.address_ranges.move_fault.Goals as goal

pub overlaps_another-requires-clause-some : goal.overlaps_another-requires-clause-some
overlaps_another-requires-clause-some g c =
    let place = g.P.Placed.placement in
    let xs = c.args.images.now in
    let there = c.in-Some.ensures.lookup in
    let lt = ltb-true c.args.number (length xs) (sym there.0) in
    let some = c.requires.apart.some c.args.number (omega (arith, lt, length-map xs place)) in
    let own = own_at place xs c.in-Some.own.now c.args.number lt there.1 in
    let size = ap (λ (p : Placement). p.size) own in
    omega (arith, some, size, c.size.ensures)

pub overlaps_another-requires-clause-room : goal.overlaps_another-requires-clause-room
overlaps_another-requires-clause-room g c =
    let p : Placement = record (g.P.Placed.placement c.in-Some.own.now) { base = c.args.base } in
    let room = base_room c.args.number p (sym c.base_fault.ensures ∙ c.in_default-base_fault.is) in
    omega (arith, room, c.size.ensures)

pub returns-then-overlaps_another : goal.returns-then-overlaps_another
returns-then-overlaps_another g c =
    let place = g.P.Placed.placement in
    let xs = c.args.images.now in
    let there = c.in-Some.ensures.lookup in
    let own = c.in-Some.own.now in
    let p : Placement = record (place own) { base = c.args.base } in
    let others = others_than c.args.number (map place xs) in
    let met = ap (λ n. list_any (λ (other : Placement). meets c.args.base n other.base other.size) others) (sym c.size.ensures) ∙ sym c.overlaps_another.ensures ∙ c.if-overlaps_another.true in
    base_alone_none others c.args.number p true (sym c.base_fault.ensures ∙ c.in_default-base_fault.is) met
    ∙ move_asked place xs own c.args.number c.args.base (ltb-true c.args.number (length xs) (sym there.0)) there.1

pub returns-else-overlaps_another : goal.returns-else-overlaps_another
returns-else-overlaps_another g c =
    let place = g.P.Placed.placement in
    let xs = c.args.images.now in
    let there = c.in-Some.ensures.lookup in
    let own = c.in-Some.own.now in
    let p : Placement = record (place own) { base = c.args.base } in
    let others = others_than c.args.number (map place xs) in
    let met = ap (λ n. list_any (λ (other : Placement). meets c.args.base n other.base other.size) others) (sym c.size.ensures) ∙ sym c.overlaps_another.ensures ∙ c.if-overlaps_another.false in
    base_alone_none others c.args.number p false (sym c.base_fault.ensures ∙ c.in_default-base_fault.is) met
    ∙ move_asked place xs own c.args.number c.args.base (ltb-true c.args.number (length xs) (sym there.0)) there.1

pub returns-in-Some-base_fault : goal.returns-in-Some-base_fault
returns-in-Some-base_fault g c =
    let place = g.P.Placed.placement in
    let xs = c.args.images.now in
    let there = c.in-Some.ensures.lookup in
    let own = c.in-Some.own.now in
    let p : Placement = record (place own) { base = c.args.base } in
    base_alone_some (others_than c.args.number (map place xs)) c.args.number p _ (sym c.base_fault.ensures ∙ c.in-Some-base_fault.is)
    ∙ move_asked place xs own c.args.number c.args.base (ltb-true c.args.number (length xs) (sym there.0)) there.1
