-- There are no more descriptors than the bytes hold.
use Rattle.std.proofs.Common.{◌/◌, List, length, not, ap, arith}
use Rattle.std.proofs.lemmas.List.FromFn.{length-map-range_with_len}
use Rattle.pe_layout.specs.Layout.{image_of}
use Rattle.pe_records.specs.Records.{raw_bytes}
use Rattle.pe_delay.specs.Descriptors.{descriptor_at, is_null}
use Rattle.pe_delay.specs.declared.descriptor.DelayDescriptor.{DelayDescriptor}
use Rattle.pe_delay.proofs.Walks.{items_few}
use Rattle.pe_delay.proofs.findings.is_ended.Goals as goal

pub overflow_add-count : goal.overflow_add-count
overflow_add-count c =
    let bytes = raw_bytes (image_of c.args.layout.now) c.args.start in
    let few = items_few (λ (d : DelayDescriptor). not (is_null d)) (descriptor_at c.args.start bytes) (length bytes / 32) 0 in
    let one = ap (λ (ds : List DelayDescriptor). length ds) c.in-Some.ensures.steps in
    let inv = c.loop-descriptor.invariant in
    let i = image_of c.args.layout.now in
    let held = c.raw_bytes.ensures.len in
    let size = length-map-range_with_len i.byte c.args.start (i.raw_left c.args.start) in
    omega (arith, few, one, inv, held, size)
