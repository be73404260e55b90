use Rattle.std.proofs.Common.{◌≡◌, ◌∙◌, List, ap, sym, subst, arith, ℕ, length}
use Rattle.std.specs.Prelude.{None, count_by, slice_set}
use Rattle.std.proofs.lemmas.List.{get_or_default, with_items_is}
use Rattle.pe_space.specs.ByBase.{IsByBase}
use Rattle.pe_space.specs.Content.{SpaceImage, Content, nth_image}
use Rattle.pe_space.specs.FileSpaceView.{file_content, FileSpaceHolds}
use Rattle.pe_space.specs.declared.by_base.NumberAt.{NumberAt}
use Rattle.pe_space.specs.Memory.{ends_in}
use Rattle.pe_space.specs.Moves.{move_fault, moved, moved_counts}
use Rattle.pe_space.specs.declared.space.Moved.{Moved}
use Rattle.pe_space.proofs.FileSpaces.{image_at, filed_moved, filed_order, filed_apart, fault_so}
use Rattle.pe_space.proofs.Move.{accepts, fault_bare, counts_bare}
use Rattle.pe_space.proofs.file_space.FileSpaceSpace.move_image.Goals as goal

pub returns-in-Some-clause-fault : goal.returns-in-Some-clause-fault
returns-in-Some-clause-fault g c =
    let images = c.self.inside.images.items in
    let own = file_content images c.self.inside.bindings.items in
    ap (λ (x : Content). move_fault x c.args.image c.args.base) (sym c.self.view_is) ∙ fault_bare own c.args.image c.args.base
    ∙ fault_so images c.as_slice.result.now c.self.inside.bindings.items c.args.image c.args.base c.as_slice.ensures.value ∙ sym c.move_fault.ensures ∙ c.in-Some.is

pub index_mut-own-requires : goal.index_mut-own-requires
index_mut-own-requires g c =
    let images = c.self.inside.images.items in
    let bs = c.self.inside.bindings.items in
    let none : move_fault (file_content images bs) c.args.image c.args.base ≡ None =
    fault_so images c.as_slice.result.now bs c.args.image c.args.base c.as_slice.ensures.value ∙ sym c.move_fault.ensures ∙ c.in_default.is in
    omega (arith, (accepts (file_content images bs) c.args.image c.args.base none).image, c.self.inside.images.ok.0)

pub invariant_of-self : goal.invariant_of-self
invariant_of-self g c =
    let images = c.self.inside.images.items in
    let bs = c.self.inside.bindings.items in
    let none : move_fault (file_content images bs) c.args.image c.args.base ≡ None =
    fault_so images c.as_slice.result.now bs c.args.image c.args.base c.as_slice.ensures.value ∙ sym c.move_fault.ensures ∙ c.in_default.is in
    let kept = filed_moved images c.self.inside.order.items c.rebase-2.new.order bs c.self.inside.slots.items c.self.inside.counts.items c.args.image c.args.base c.index_mut-own.result.now c.rebase.new.self c.self.invariant none c.index_mut-own.ensures.value c.rebase.ensures
    (λ ps lt by. c.rebase-2.ensures ps lt (subst (IsByBase ps) (sym c.as_mut_slice.ensures.value) by)) in
    subst (λ (order : List NumberAt). FileSpaceHolds (slice_set images c.args.image c.rebase.new.self) order bs c.self.inside.slots.items c.self.inside.counts.items) (sym (with_items_is c.self.inside.order c.rebase-2.new.order (c.rebase-2.auto.order ∙ c.as_mut_slice.ensures.len)))
    kept.0

pub returns-clause-ok : goal.returns-clause-ok
returns-clause-ok g c =
    let images = c.self.inside.images.items in
    let bs = c.self.inside.bindings.items in
    let none : move_fault (file_content images bs) c.args.image c.args.base ≡ None =
    fault_so images c.as_slice.result.now bs c.args.image c.args.base c.as_slice.ensures.value ∙ sym c.move_fault.ensures ∙ c.in_default.is in
    let kept = filed_moved images c.self.inside.order.items c.rebase-2.new.order bs c.self.inside.slots.items c.self.inside.counts.items c.args.image c.args.base c.index_mut-own.result.now c.rebase.new.self c.self.invariant none c.index_mut-own.ensures.value c.rebase.ensures
    (λ ps lt by. c.rebase-2.ensures ps lt (subst (IsByBase ps) (sym c.as_mut_slice.ensures.value) by)) in (
      ap (λ (x : Content). move_fault x c.args.image c.args.base) (sym c.self.view_is) ∙ fault_bare (file_content images bs) c.args.image c.args.base ∙ none,
      kept.1 ∙ ap (λ (x : Content). moved x c.args.image c.args.base) c.self.view_is,
    )

abbrev counted : ℕ → ℕ → Moved
counted fields slots = record { fields = fields; slots = slots }

pub returns-clause-counts : goal.returns-clause-counts
returns-clause-counts g c =
    let images = c.self.inside.images.items in
    let bs = c.self.inside.bindings.items in
    let none : move_fault (file_content images bs) c.args.image c.args.base ≡ None =
    fault_so images c.as_slice.result.now bs c.args.image c.args.base c.as_slice.ensures.value ∙ sym c.move_fault.ensures ∙ c.in_default.is in
    let lt = (accepts (file_content images bs) c.args.image c.args.base none).image in
    let fields : c.field_count-fields.result ≡ length (nth_image images c.args.image).fixups =
    c.field_count-fields.ensures ∙ ap (λ (m : SpaceImage). length m.fixups) c.rebase.ensures ∙ ap (λ (m : SpaceImage). length m.fixups) (image_at images c.args.image c.index_mut-own.result.now lt c.index_mut-own.ensures.value) in
    let counts = c.self.inside.counts.items in
    let slots : c.index.result.now ≡ count_by (ends_in c.args.image) bs = c.index.ensures ∙ get_or_default counts c.args.image c.index.result.now 0 (omega (arith, lt, c.self.invariant.counts.count)) ∙ c.self.invariant.counts.each c.args.image lt in
    ap (λ (n : ℕ). counted n c.index.result.now) fields
    ∙ ap (counted (length (nth_image images c.args.image).fixups)) slots
    ∙ sym (counts_bare (file_content images bs) c.args.image)
    ∙ ap (λ (x : Content). moved_counts x c.args.image) c.self.view_is

pub move_fault-requires-clause-order : goal.move_fault-requires-clause-order
move_fault-requires-clause-order g c = filed_order c.self.inside.images.items c.as_slice.result.now c.self.invariant c.as_slice.ensures.value c.as_slice-2.ensures.value

pub move_fault-requires-clause-apart : goal.move_fault-requires-clause-apart
move_fault-requires-clause-apart g c = filed_apart c.self.inside.images.items c.as_slice.result.now c.self.invariant c.as_slice.ensures.value

pub index-requires : goal.index-requires
index-requires g c =
    let images = c.self.inside.images.items in
    let bs = c.self.inside.bindings.items in
    let none : move_fault (file_content images bs) c.args.image c.args.base ≡ None =
    fault_so images c.as_slice.result.now bs c.args.image c.args.base c.as_slice.ensures.value ∙ sym c.move_fault.ensures ∙ c.in_default.is in
    omega (arith, (accepts (file_content images bs) c.args.image c.args.base none).image, c.self.invariant.counts.count, c.self.inside.counts.ok.0)
