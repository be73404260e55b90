use Rattle.std.proofs.Common.{arith, ◌≡◌, ◌∙◌, List, ap, length, refl, sym, subst}
use Rattle.std.proofs.lemmas.List.{with_items_is}
use Rattle.std.proofs.lemmas.Result.{err_from_is_err_and}
use Rattle.pe_set.specs.Placement.{Placement}
use Rattle.pe_set.specs.declared.binding.Binding.{Binding}
use Rattle.pe_space.specs.ByBase.{IsByBase}
use Rattle.pe_space.specs.Content.{SpaceImage, nth_image}
use Rattle.pe_space.specs.InMemory.{InMemory, images_of}
use Rattle.pe_space.specs.MappedSpaceView.{MappedSpaceHolds, mapped_content}
use Rattle.pe_space.specs.Unbound.{unbound}
use Rattle.pe_space.specs.Ordered.{IsOrdered, exporter_of}
use Rattle.pe_space.proofs.Asked.{limit_le}
use Rattle.pe_space.proofs.Addressing.{placed_so}
use Rattle.pe_space.proofs.Relocated.{kept_fresh}
use Rattle.pe_space.proofs.mapped_space.MappedSpace.new.Goals as goal

pub invariant_of-result : goal.invariant_of-result
invariant_of-result g c =
    let hs = c.args.images.items in
    let order = c.in_ok-order.order.items in
    let slots = c.in_ok-slots.slots.items in
    subst (λ (xs : List InMemory). MappedSpaceHolds xs order c.args.bindings.items slots) (sym (with_items_is c.args.images c.bind.new.images (c.bind.auto.images ∙ c.as_mut_slice.ensures.len)))
    (kept_fresh hs c.as_mut_slice.result.now c.bind.new.images order c.args.bindings.items slots c.as_slice-3.result.now c.requires.fields_and_slots c.requires.placed c.requires.slots_unbound
    (subst (λ (ps : List Placement). IsByBase ps order) (sym (placed_so hs c.as_slice.result.now c.as_slice.ensures.value)) c.in_ok-order.ensures.order)
    (subst (λ (l : List Binding). IsOrdered exporter_of l slots) c.as_slice-2.ensures.value c.in_ok-slots.ensures.ordered)
    c.as_mut_slice.ensures.value c.as_slice-3.ensures.value c.bind.ensures.images c.bind.ensures.memories)

pub returns-in_err-order-clause-content : goal.returns-in_err-order-clause-content
returns-in_err-order-clause-content g c = let p = err_from_is_err_and c.from_residual.result c.from_residual.ensures.1 in rw p.1 tt

pub returns-in_err-order-clause-empty : goal.returns-in_err-order-clause-empty
returns-in_err-order-clause-empty g c = λ none empty. let made = c.in_err-order.ensures.empty (ap length c.as_slice.ensures.value ∙ none) in absurd cc

pub returns-in_err-slots-clause-content : goal.returns-in_err-slots-clause-content
returns-in_err-slots-clause-content g c = let p = err_from_is_err_and c.from_residual-in_err-slots.result c.from_residual-in_err-slots.ensures.1 in rw p.1 tt

pub returns-in_err-slots-clause-empty : goal.returns-in_err-slots-clause-empty
returns-in_err-slots-clause-empty g c = λ none empty. let made = c.in_err-slots.ensures.empty (ap length c.as_slice-2.ensures.value ∙ empty) in absurd cc

pub bind-requires-clause-slots : goal.bind-requires-clause-slots
bind-requires-clause-slots g c = rw (c.as_mut_slice.ensures.value, c.as_slice-3.ensures.value) c.requires.fields_and_slots.slots

pub bind-requires-clause-room : goal.bind-requires-clause-room
bind-requires-clause-room g c =
    rw c.as_mut_slice.ensures.value (λ j. let end = c.requires.placed.room j in let limit = limit_le (nth_image (images_of c.args.images.items) j).magic in omega arith)

pub returns-clause-empty : goal.returns-clause-empty
returns-clause-empty g c = λ none empty. refl

pub returns-clause-content : goal.returns-clause-content
returns-clause-content g c =
    let bindings = c.args.bindings.items in
    let same : images_of c.bind.new.images ≡ images_of c.args.images.items = c.bind.ensures.images ∙ ap images_of c.as_mut_slice.ensures.value in
    ap (λ (xs : List InMemory). unbound (mapped_content xs bindings)) (with_items_is c.args.images c.bind.new.images (c.bind.auto.images ∙ c.as_mut_slice.ensures.len))
    ∙ ap (λ (images : List SpaceImage). unbound (record { images = images; bindings = bindings })) same
