use Rattle.std.proofs.Common.{◌≡◌, ◌∙◌, ◌+◌, ◌-◌, ap, sym, refl, arith, length, List, ℕ}
use Rattle.std.specs.Prelude.{Ok}
use Rattle.std.proofs.lemmas.Result.{err_from_is_err_and}
use Rattle.pe_space.specs.Content.{Content, window_at}
use Rattle.std.proofs.lemmas.List.{length-map}
use Rattle.pe_space.specs.InMemory.{InMemory, images_of}
use Rattle.pe_space.specs.MappedSpaceView.{mapped_content}
use Rattle.pe_space.proofs.Addressing.{window_place, found_window, window_here}
use Rattle.pe_space.proofs.Defining.{bytes_same, window_told, image_told, window_refused}
use Rattle.pe_space.proofs.mapped_space.MappedSpaceSpace.window.Goals as goal

pub overflow_sub-address : goal.overflow_sub-address
overflow_sub-address g c =
    let hs = c.self.inside.images.items in
    let bs = c.self.inside.bindings.items in
    let a = c.args.address in
    let n = length c.args.buffer.now in
    let lies = image_told (mapped_content hs bs) c.args.self.now a n (Ok c.in_ok-number.number) c.self.view_is c.in_ok-number.ensures in
    let both = found_window hs bs a n c.in_ok-number.number c.index-image.result.now lies c.index-image.ensures in
    rw c.base.ensures both.0.low

pub read-requires : goal.read-requires
read-requires g c =
    let hs = c.self.inside.images.items in
    let bs = c.self.inside.bindings.items in
    let a = c.args.address in
    let n = length c.args.buffer.now in
    let lies = image_told (mapped_content hs bs) c.args.self.now a n (Ok c.in_ok-number.number) c.self.view_is c.in_ok-number.ensures in
    let both = found_window hs bs a n c.in_ok-number.number c.index-image.result.now lies c.index-image.ensures in
    rw c.base.ensures both.1

pub returns-in_err-number-clause-fault : goal.returns-in_err-number-clause-fault
returns-in_err-number-clause-fault g c =
    let fault = c.in_err-number.field-0.0 in
    let p = err_from_is_err_and c.from_residual.result c.from_residual.ensures.1 in
    rw (p.1, p.2) (window_refused c.args.self.now c.args.address (length c.args.buffer.now) fault (sym c.is_empty.ensures ∙ c.if-is_empty.false) c.in_err-number.ensures)

pub returns-clause-ok : goal.returns-clause-ok
returns-clause-ok g c =
    let hs = c.self.inside.images.items in
    let bs = c.self.inside.bindings.items in
    let a = c.args.address in
    let n = length c.args.buffer.now in
    let lies = image_told (mapped_content hs bs) c.args.self.now a n (Ok c.in_ok-number.number) c.self.view_is c.in_ok-number.ensures in
    let both = found_window hs bs a n c.in_ok-number.number c.index-image.result.now lies c.index-image.ensures in
    let whole = mapped_content hs bs in
    let m = c.index-image.result.now in
    let count : a - m.image.base + n - (a - m.image.base) ≡ n = omega arith in
    ap (λ (x : Content). window_at x a n) (sym c.self.view_is)
    ∙ window_told whole a n (Ok c.in_ok-number.number) (sym c.is_empty.ensures ∙ c.if-is_empty.false) lies
    ∙ ap (λ (xs : List ℕ). Ok xs) (bytes_same whole n a c.self.invariant.fields_and_slots c.self.invariant.whole ∙ window_here hs bs a n c.in_ok-number.number m c.self.invariant both.0 both.1)
    ∙ rw (c.read.ensures, c.base.ensures, count) refl

pub index-image-requires : goal.index-image-requires
index-image-requires g c =
    let hs = c.self.inside.images.items in
    let lies = image_told (mapped_content hs c.self.inside.bindings.items) c.args.self.now c.args.address (length c.args.buffer.now) (Ok c.in_ok-number.number) c.self.view_is c.in_ok-number.ensures in
    omega (arith, window_place (images_of hs) c.args.address (length c.args.buffer.now) c.in_ok-number.number lies, length-map hs (λ (h : InMemory). h.image), c.self.inside.images.ok.0)
