use Rattle.std.proofs.Common.{◌∙◌, ◌<◌, List, length, map, subst}
use Rattle.pe_set.specs.declared.binding.Binding.{Binding}
use Rattle.pe_space.specs.ByBase.{IsByBase}
use Rattle.pe_space.specs.Content.{SpaceImage, placement_of}
use Rattle.pe_space.specs.FileSpaceView.{SlotCounts}
use Rattle.pe_space.specs.Ordered.{IsOrdered, slot_of}
use Rattle.pe_space.specs.FieldsAndSlots.{IsSlot}
use Rattle.pe_space.proofs.Lists.{each_map}
use Rattle.pe_space.proofs.file_space.FileSpace.new.Goals as goal

pub count_slots-requires-clause-exporters : goal.count_slots-requires-clause-exporters
count_slots-requires-clause-exporters g c =
    let images = c.args.images.items in
    rw (c.as_slice-3.ensures.value, c.len.ensures, c.args.images.ok.0) (each_map (IsSlot images) (λ (b : Binding). b.exporter < length images) c.args.bindings.items (λ b slot. slot.exporter) c.requires.fields_and_slots.slots)

pub invariant_of-result : goal.invariant_of-result
invariant_of-result g c = record {
  fields_and_slots = c.requires.fields_and_slots;
  placed = c.requires.placed;
  whole = c.requires.whole;
  small = c.requires.small;
  by_base = subst (λ (l : List SpaceImage). IsByBase (map placement_of l) c.in_ok-order.order.items) c.as_slice.ensures.value c.in_ok-order.ensures.order;
  by_slot = subst (λ (l : List Binding). IsOrdered slot_of l c.in_ok-slots.slots.items) c.as_slice-2.ensures.value c.in_ok-slots.ensures.ordered;
  counts = subst (λ n. SlotCounts n c.args.bindings.items c.in_ok-counts.counts.items) (c.len.ensures ∙ c.args.images.ok.0)
      (subst (λ (l : List Binding). SlotCounts c.len.result l c.in_ok-counts.counts.items) c.as_slice-3.ensures.value c.in_ok-counts.ensures.counts);
}
