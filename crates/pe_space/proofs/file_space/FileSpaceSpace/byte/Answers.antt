use Rattle.std.proofs.Common.{◌∙◌, ◌-◌, ap, sym, arith, List, ℕ, get_or}
use Rattle.std.specs.Prelude.{Some}
use Rattle.pe_space.specs.Content.{SpaceImage, Content, holder_from, byte_at, byte_in}
use Rattle.pe_space.specs.FileSpaceView.{file_content}
use Rattle.pe_space.specs.Windows.{bytes_in}
use Rattle.pe_space.proofs.Defining.{byte_nowhere}
use Rattle.pe_space.proofs.FileSpaces.{filed_order, filed_apart, found_at, byte_found, same_size, still_there}
use Rattle.pe_space.proofs.file_space.FileSpaceSpace.byte.Goals as goal

pub overflow_sub-rva : goal.overflow_sub-rva
overflow_sub-rva g c =
    let images = c.self.inside.images.items in
    let own = file_content images c.self.inside.bindings.items in
    let a = c.args.address in
    let j = c.in_ok-number.number in
    let m = c.index.result.now in
    let found = found_at images c.as_slice.result.now a j m c.as_slice.ensures.value c.in_ok-number.ensures.holder c.index.ensures in
    rw c.base.ensures found.low

pub overflow_cast-rva : goal.overflow_cast-rva
overflow_cast-rva g c =
    let images = c.self.inside.images.items in
    let own = file_content images c.self.inside.bindings.items in
    let a = c.args.address in
    let j = c.in_ok-number.number in
    let m = c.index.result.now in
    let found = found_at images c.as_slice.result.now a j m c.as_slice.ensures.value c.in_ok-number.ensures.holder c.index.ensures in
    let low = found.low in
    let high = found.high in
    let small = c.self.invariant.small j in
    let size = ap (λ (m : SpaceImage). m.size) found.image in
    omega (arith, low, high, small, size, c.base.ensures)

pub read-requires-clause-number : goal.read-requires-clause-number
read-requires-clause-number g c =
    let images = c.self.inside.images.items in
    let own = file_content images c.self.inside.bindings.items in
    let a = c.args.address in
    let j = c.in_ok-number.number in
    let m = c.index.result.now in
    let found = found_at images c.as_slice.result.now a j m c.as_slice.ensures.value c.in_ok-number.ensures.holder c.index.ensures in
    still_there own c.args.self.now j c.self.view_is found.place

pub read-requires-clause-inside : goal.read-requires-clause-inside
read-requires-clause-inside g c =
    let images = c.self.inside.images.items in
    let own = file_content images c.self.inside.bindings.items in
    let a = c.args.address in
    let j = c.in_ok-number.number in
    let m = c.index.result.now in
    let found = found_at images c.as_slice.result.now a j m c.as_slice.ensures.value c.in_ok-number.ensures.holder c.index.ensures in
    let low = found.low in
    let high = found.high in
    let size = ap (λ (m : SpaceImage). m.size) found.image in
    let same = same_size own c.args.self.now j c.self.view_is found.place in
    omega (arith, low, high, size, same, c.base.ensures)

pub returns : goal.returns
unfolding bytes_in
returns g c =
    let images = c.self.inside.images.items in
    let own = file_content images c.self.inside.bindings.items in
    let a = c.args.address in
    let j = c.in_ok-number.number in
    let m = c.index.result.now in
    let found = found_at images c.as_slice.result.now a j m c.as_slice.ensures.value c.in_ok-number.ensures.holder c.index.ensures in
    ap (λ (l : List ℕ). Some (get_or l 0 0)) c.read.ensures
    ∙ ap (λ (n : ℕ). Some (byte_in c.args.self.now j (a - n))) c.base.ensures
    ∙ ap (λ (x : Content). Some (byte_in x j (a - m.base))) (sym c.self.view_is)
    ∙ sym (byte_found images c.self.inside.order.items c.self.inside.bindings.items c.self.inside.slots.items c.self.inside.counts.items c.self.invariant a j m found)
    ∙ ap (λ (x : Content). byte_at x a) c.self.view_is

pub returns-in_err-number : goal.returns-in_err-number
returns-in_err-number g c =
    let images = c.self.inside.images.items in
    c.from_residual.ensures
    ∙ sym (ap (λ (x : Content). byte_at x c.args.address) (sym c.self.view_is)
    ∙ byte_nowhere (file_content images c.self.inside.bindings.items) c.args.address
    (sym (ap (λ (x : List SpaceImage). holder_from 0 x c.args.address) c.as_slice.ensures.value) ∙ sym c.in_err-number.ensures.holder))

pub holder-requires-clause-order : goal.holder-requires-clause-order
holder-requires-clause-order g c = filed_order c.self.inside.images.items c.as_slice.result.now c.self.invariant c.as_slice.ensures.value c.as_slice-2.ensures.value

pub holder-requires-clause-apart : goal.holder-requires-clause-apart
holder-requires-clause-apart g c = filed_apart c.self.inside.images.items c.as_slice.result.now c.self.invariant c.as_slice.ensures.value
