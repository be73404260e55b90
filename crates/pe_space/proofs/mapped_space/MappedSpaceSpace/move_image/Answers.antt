use Rattle.std.proofs.Common.{◌≡◌, ◌∙◌, ℕ, List, length, ap, sym, subst, arith}
use Rattle.std.specs.Prelude.{None}
use Rattle.std.specs.List.Sorted.{IsNonDecreasingBy}
use Rattle.std.specs.Vec.{with_item, with_items}
use Rattle.std.proofs.lemmas.List.{with_items_is}
use Rattle.std.proofs.lemmas.List.Sums.{count_by-le-length}
use Rattle.pe_view.specs.Faults.{first_standing}
use Rattle.pe_set.specs.Placement.{Placement, move_tests}
use Rattle.pe_space.specs.Unbound.{unbound}
use Rattle.pe_space.specs.ByBase.{IsByBase}
use Rattle.pe_space.specs.Content.{Content, SpaceImage, nth_image}
use Rattle.pe_space.specs.InMemory.{InMemory, images_of}
use Rattle.pe_space.specs.MappedSpaceView.{mapped_content, MappedSpaceHolds}
use Rattle.pe_space.specs.Memory.{ends_in}
use Rattle.pe_space.specs.Moves.{move_fault, moved, moved_counts}
use Rattle.pe_space.specs.Ordered.{exporter_of}
use Rattle.pe_space.specs.declared.by_base.NumberAt.{NumberAt}
use Rattle.pe_space.specs.declared.space.Moved.{Moved}
use Rattle.pe_space.proofs.Addressing.{placed_so, kept_order, kept_apart}
use Rattle.pe_space.proofs.MemoryWrites.{image_read}
use Rattle.pe_space.proofs.Move.{below, slots_first, room_first, kept_moved, ending_from, count_ending, bare_moved, fault_bare, counts_bare}
use Rattle.pe_space.proofs.mapped_space.MappedSpaceSpace.move_image.Goals as goal

pub move_fault-requires-clause-order : goal.move_fault-requires-clause-order
move_fault-requires-clause-order g c = kept_order c.self.inside.images.items c.as_slice.result.now c.self.inside.bindings.items c.self.invariant c.as_slice.ensures.value c.as_slice-2.ensures.value

pub move_fault-requires-clause-apart : goal.move_fault-requires-clause-apart
move_fault-requires-clause-apart g c = kept_apart c.self.inside.images.items c.as_slice.result.now c.self.inside.bindings.items c.self.invariant c.as_slice.ensures.value

pub returns-in-Some-clause-fault : goal.returns-in-Some-clause-fault
returns-in-Some-clause-fault g c =
    let items = c.self.inside.images.items in
    let bs = c.self.inside.bindings.items in
    ap (λ (x : Content). move_fault x c.args.image c.args.base) (sym c.self.view_is)
    ∙ fault_bare (mapped_content items bs) c.args.image c.args.base
    ∙ ap (λ (ps : List Placement). first_standing (move_tests ps c.args.image c.args.base)) (placed_so items c.as_slice.result.now c.as_slice.ensures.value)
    ∙ sym c.move_fault.ensures ∙ c.in-Some.is

pub slots_of-slots-requires : goal.slots_of-slots-requires
slots_of-slots-requires g c = subst (IsNonDecreasingBy exporter_of) (sym c.as_slice-3.ensures.value) c.self.invariant.by_exporter.ascend

pub bind-requires-clause-slots : goal.bind-requires-clause-slots
bind-requires-clause-slots g c =
    let items = c.self.inside.images.items in
    let bs = c.self.inside.bindings.items in
    let none : move_fault (mapped_content items bs) c.args.image c.args.base ≡ None =
    ap (λ (ps : List Placement). first_standing (move_tests ps c.args.image c.args.base)) (placed_so items c.as_slice.result.now c.as_slice.ensures.value) ∙ sym c.move_fault.ensures ∙ c.in_default.is in
    let ending = ending_from (mapped_content items bs) c.self.inside.slots.items c.as_slice-3.result.now c.slots_of-slots.result.now c.args.image c.self.invariant.by_exporter c.as_slice-3.ensures.value c.slots_of-slots.ensures.held c.slots_of-slots.ensures.all in
    slots_first items c.as_mut_slice-2.result.now c.self.inside.order.items bs c.self.inside.slots.items c.args.image c.args.base c.index_mut-own.result.now c.rebase.new.self c.self.invariant none c.index_mut-own.ensures.value c.rebase.ensures c.as_mut_slice-2.ensures.value c.slots_of-slots.result.now ending

pub bind-requires-clause-room : goal.bind-requires-clause-room
bind-requires-clause-room g c =
    let items = c.self.inside.images.items in
    let bs = c.self.inside.bindings.items in
    let none : move_fault (mapped_content items bs) c.args.image c.args.base ≡ None =
    ap (λ (ps : List Placement). first_standing (move_tests ps c.args.image c.args.base)) (placed_so items c.as_slice.result.now c.as_slice.ensures.value) ∙ sym c.move_fault.ensures ∙ c.in_default.is in
    room_first items c.as_mut_slice-2.result.now c.self.inside.order.items bs c.self.inside.slots.items c.args.image c.args.base c.index_mut-own.result.now c.rebase.new.self c.self.invariant none c.index_mut-own.ensures.value c.rebase.ensures c.as_mut_slice-2.ensures.value

pub invariant_of-self : goal.invariant_of-self
invariant_of-self g c =
    let items = c.self.inside.images.items in
    let bs = c.self.inside.bindings.items in
    let none : move_fault (mapped_content items bs) c.args.image c.args.base ≡ None =
    ap (λ (ps : List Placement). first_standing (move_tests ps c.args.image c.args.base)) (placed_so items c.as_slice.result.now c.as_slice.ensures.value) ∙ sym c.move_fault.ensures ∙ c.in_default.is in
    let ending = ending_from (mapped_content items bs) c.self.inside.slots.items c.as_slice-3.result.now c.slots_of-slots.result.now c.args.image c.self.invariant.by_exporter c.as_slice-3.ensures.value c.slots_of-slots.ensures.held c.slots_of-slots.ensures.all in
    let kept = kept_moved items c.as_mut_slice-2.result.now c.self.inside.order.items bs c.self.inside.slots.items c.args.image c.args.base c.index_mut-own.result.now c.rebase.new.self c.self.invariant none c.index_mut-own.ensures.value c.rebase.ensures c.as_mut_slice-2.ensures.value c.bind.new.images c.slots_of-slots.result.now c.rebase-2.new.order ending
    (λ ps lt by. c.rebase-2.ensures ps lt (subst (IsByBase ps) (sym c.as_mut_slice.ensures.value) by)) c.bind.ensures.images c.bind.ensures.memories in
    subst (λ (xs : List InMemory). MappedSpaceHolds xs (with_items c.self.inside.order c.rebase-2.new.order).items bs c.self.inside.slots.items) (sym (with_items_is (with_item c.self.inside.images c.args.image c.rebase.new.self) c.bind.new.images (c.bind.auto.images ∙ c.as_mut_slice-2.ensures.len)))
    (subst (λ (order : List NumberAt). MappedSpaceHolds c.bind.new.images order bs c.self.inside.slots.items) (sym (with_items_is c.self.inside.order c.rebase-2.new.order (c.rebase-2.auto.order ∙ c.as_mut_slice.ensures.len))) kept.0)

pub returns-clause-ok : goal.returns-clause-ok
returns-clause-ok g c =
    let items = c.self.inside.images.items in
    let bs = c.self.inside.bindings.items in
    let none : move_fault (mapped_content items bs) c.args.image c.args.base ≡ None =
    ap (λ (ps : List Placement). first_standing (move_tests ps c.args.image c.args.base)) (placed_so items c.as_slice.result.now c.as_slice.ensures.value) ∙ sym c.move_fault.ensures ∙ c.in_default.is in
    let ending = ending_from (mapped_content items bs) c.self.inside.slots.items c.as_slice-3.result.now c.slots_of-slots.result.now c.args.image c.self.invariant.by_exporter c.as_slice-3.ensures.value c.slots_of-slots.ensures.held c.slots_of-slots.ensures.all in
    let kept = kept_moved items c.as_mut_slice-2.result.now c.self.inside.order.items bs c.self.inside.slots.items c.args.image c.args.base c.index_mut-own.result.now c.rebase.new.self c.self.invariant none c.index_mut-own.ensures.value c.rebase.ensures c.as_mut_slice-2.ensures.value c.bind.new.images c.slots_of-slots.result.now c.rebase-2.new.order ending
    (λ ps lt by. c.rebase-2.ensures ps lt (subst (IsByBase ps) (sym c.as_mut_slice.ensures.value) by)) c.bind.ensures.images c.bind.ensures.memories in (
      ap (λ (x : Content). move_fault x c.args.image c.args.base) (sym c.self.view_is) ∙ fault_bare (mapped_content items bs) c.args.image c.args.base ∙ none,
      ap (λ (xs : List InMemory). unbound (mapped_content xs bs)) (with_items_is (with_item c.self.inside.images c.args.image c.rebase.new.self) c.bind.new.images (c.bind.auto.images ∙ c.as_mut_slice-2.ensures.len))
          ∙ ap unbound kept.1 ∙ bare_moved (mapped_content items bs) c.args.image c.args.base ∙ ap (λ (x : Content). moved x c.args.image c.args.base) c.self.view_is,
    )

abbrev counted : ℕ → ℕ → Moved
counted fields slots = record { fields = fields; slots = slots }

pub returns-clause-counts : goal.returns-clause-counts
returns-clause-counts g c =
    let items = c.self.inside.images.items in
    let bs = c.self.inside.bindings.items in
    let none : move_fault (mapped_content items bs) c.args.image c.args.base ≡ None =
    ap (λ (ps : List Placement). first_standing (move_tests ps c.args.image c.args.base)) (placed_so items c.as_slice.result.now c.as_slice.ensures.value) ∙ sym c.move_fault.ensures ∙ c.in_default.is in
    let lt = below items c.as_mut_slice-2.result.now c.self.inside.order.items bs c.self.inside.slots.items c.args.image c.args.base c.index_mut-own.result.now c.rebase.new.self c.self.invariant none c.index_mut-own.ensures.value c.rebase.ensures c.as_mut_slice-2.ensures.value in
    let fields = c.field_count-fields.ensures ∙ ap (λ (h : InMemory). length h.image.fixups) c.rebase.ensures
    ∙ ap (λ (m : SpaceImage). length m.fixups) (image_read items c.args.image c.index_mut-own.result.now lt c.index_mut-own.ensures.value) in
    let slots = count_ending bs c.self.inside.slots.items c.as_slice-3.result.now c.args.image _ c.self.invariant.by_exporter c.as_slice-3.ensures.value c.slots_of-slots.ensures.count in
    ap (λ (n : ℕ). counted n (length c.slots_of-slots.result.now)) fields
    ∙ ap (counted (length (nth_image (images_of items) c.args.image).fixups)) slots
    ∙ sym (counts_bare (mapped_content items bs) c.args.image)
    ∙ ap (λ (x : Content). moved_counts x c.args.image) c.self.view_is

pub overflow_cast-result : goal.overflow_cast-result
overflow_cast-result g c =
    let bs = c.self.inside.bindings.items in
    let count = count_ending bs c.self.inside.slots.items c.as_slice-3.result.now c.args.image _ c.self.invariant.by_exporter c.as_slice-3.ensures.value c.slots_of-slots.ensures.count in
    omega (arith, count, count_by-le-length (ends_in c.args.image) bs, c.self.invariant.placed.few_slots)
