use Rattle.std.proofs.Common.{Some, None, ◌∙◌, ap, sym, arith, refl}
use Rattle.pe_space.specs.Content.{Content, byte_at}
use Rattle.pe_space.proofs.Addressing.{found_at, held_by, byte_here, kept_order, kept_apart}
use Rattle.pe_space.specs.MappedSpaceView.{mapped_content}
use Rattle.pe_space.proofs.Defining.{address_same, byte_nowhere}
use Rattle.pe_space.proofs.mapped_space.MappedSpaceSpace.byte.Goals as goal

pub overflow_sub-address : goal.overflow_sub-address
overflow_sub-address g c =
    let found = found_at c.self.inside.images.items c.self.inside.bindings.items c.args.address c.in_ok-number.number c.index-image.result.now
    (held_by c.self.inside.images.items c.as_slice.result.now c.args.address (Some c.in_ok-number.number) c.as_slice.ensures.value c.in_ok-number.ensures.holder) c.index-image.ensures in
    rw c.base.ensures found.low

pub byte-requires : goal.byte-requires
byte-requires g c =
    let found = found_at c.self.inside.images.items c.self.inside.bindings.items c.args.address c.in_ok-number.number c.index-image.result.now
    (held_by c.self.inside.images.items c.as_slice.result.now c.args.address (Some c.in_ok-number.number) c.as_slice.ensures.value c.in_ok-number.ensures.holder) c.index-image.ensures in
    let low = found.low in
    let high = found.high in
    rw c.base.ensures (omega arith)

pub returns : goal.returns
returns g c =
    let found = found_at c.self.inside.images.items c.self.inside.bindings.items c.args.address c.in_ok-number.number c.index-image.result.now
    (held_by c.self.inside.images.items c.as_slice.result.now c.args.address (Some c.in_ok-number.number) c.as_slice.ensures.value c.in_ok-number.ensures.holder) c.index-image.ensures in
    sym (ap (λ (x : Content). byte_at x c.args.address) (sym c.self.view_is)
    ∙ address_same (mapped_content c.self.inside.images.items c.self.inside.bindings.items) c.args.address c.self.invariant.fields_and_slots c.self.invariant.whole
    ∙ byte_here c.self.inside.images.items c.self.inside.bindings.items c.args.address c.in_ok-number.number c.index-image.result.now c.self.invariant found c.args.address found.low found.high
    ∙ rw (c.byte.ensures, c.base.ensures) refl)

pub returns-in_err-number : goal.returns-in_err-number
returns-in_err-number g c =
    c.from_residual.ensures
    ∙ sym (ap (λ (x : Content). byte_at x c.args.address) (sym c.self.view_is)
    ∙ byte_nowhere (mapped_content c.self.inside.images.items c.self.inside.bindings.items) c.args.address
    (held_by c.self.inside.images.items c.as_slice.result.now c.args.address None c.as_slice.ensures.value c.in_err-number.ensures.holder))

pub holder-requires-clause-order : goal.holder-requires-clause-order
holder-requires-clause-order g c = kept_order c.self.inside.images.items c.as_slice.result.now c.self.inside.bindings.items c.self.invariant c.as_slice.ensures.value c.as_slice-2.ensures.value

pub holder-requires-clause-apart : goal.holder-requires-clause-apart
holder-requires-clause-apart g c = kept_apart c.self.inside.images.items c.as_slice.result.now c.self.inside.bindings.items c.self.invariant c.as_slice.ensures.value
