use Rattle.std.proofs.Common.{arith, sym, subst, List}
use Rattle.std.specs.List.{Contains}
use Rattle.std.specs.List.Sorted.{IsNonDecreasingBy}
use Rattle.std.proofs.lemmas.List.Sorted.{Contains-permutation, IsPermutation-sym}
use Rattle.pe_set.specs.declared.binding.Binding.{Binding}
use Rattle.pe_space.specs.Content.{Content}
use Rattle.pe_space.specs.Ordered.{slot_of}
use Rattle.pe_space.specs.FieldsAndSlots.{IsSlot}
use Rattle.pe_space.proofs.Lists.{each_contains}
use Rattle.pe_space.proofs.file_space.FileSpace.slots_in.Goals as goal

pub between-requires-clause-ascend : goal.between-requires-clause-ascend
between-requires-clause-ascend g c = subst (IsNonDecreasingBy slot_of) (sym c.as_slice.ensures.value) c.self.invariant.by_slot.ascend

pub returns-clause-held : goal.returns-clause-held
returns-clause-held g c = λ b held.
    let own = c.between.ensures.held b held in
    let sorted : Contains c.self.inside.slots.items b = subst (λ (l : List Binding). Contains l b) c.as_slice.ensures.value own.0 in
    let bound : Contains c.self.inside.bindings.items b = Contains-permutation _ _ b (IsPermutation-sym _ _ c.self.invariant.by_slot.same) sorted in
    let slot : IsSlot c.self.inside.images.items b = each_contains _ c.self.inside.bindings.items b c.self.invariant.fields_and_slots.slots bound in
    let inside = slot.inside in
    let small = c.self.invariant.small b.image in (
      subst (λ (x : Content). Contains x.bindings b) c.self.view_is bound,
      omega (arith, own.1, own.2, inside, small, c.from-image_start.ensures, c.requires.small),
    )

pub returns-clause-all : goal.returns-clause-all
returns-clause-all g c = λ b listed here low high.
    let own : Contains c.self.inside.bindings.items b = subst (λ (x : Content). Contains x.bindings b) (sym c.self.view_is) listed in
    let sorted : Contains c.as_slice.result.now b = subst (λ (l : List Binding). Contains l b) (sym c.as_slice.ensures.value) (Contains-permutation _ _ b c.self.invariant.by_slot.same own) in
    c.between.ensures.all b sorted
    (omega (arith, c.from-image_start.ensures, c.from.ensures, c.saturating_sub.ensures, here, low)) (omega (arith, c.from-image_start.ensures, here, high))
