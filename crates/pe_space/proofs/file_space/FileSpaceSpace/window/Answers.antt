use Rattle.std.proofs.Common.{◌∙◌, ◌-◌, ap, sym, arith, length, List, ℕ}
use Rattle.std.specs.Prelude.{Ok}
use Rattle.std.proofs.lemmas.Result.{err_from_is_err_and}
use Rattle.pe_space.specs.Content.{SpaceImage, Content, window_at}
use Rattle.pe_space.specs.FileSpaceView.{file_content}
use Rattle.pe_space.specs.Windows.{bytes_in}
use Rattle.pe_space.proofs.Addressing.{window_place}
use Rattle.pe_space.proofs.Defining.{window_told, image_told, window_refused}
use Rattle.pe_space.proofs.FileSpaces.{found_window, window_found, same_size, still_there}
use Rattle.pe_space.proofs.file_space.FileSpaceSpace.window.Goals as goal

pub overflow_sub-rva : goal.overflow_sub-rva
overflow_sub-rva g c =
    let images = c.self.inside.images.items in
    let own = file_content images c.self.inside.bindings.items in
    let a = c.args.address in
    let n = length c.args.buffer.now in
    let j = c.in_ok-number.number in
    let m = c.index.result.now in
    let lies = image_told own c.args.self.now a n (Ok j) c.self.view_is c.in_ok-number.ensures in
    let both = found_window images a n j m lies c.index.ensures in
    let found = both.0 in
    rw c.base.ensures found.low

pub overflow_cast-rva : goal.overflow_cast-rva
overflow_cast-rva g c =
    let images = c.self.inside.images.items in
    let own = file_content images c.self.inside.bindings.items in
    let a = c.args.address in
    let n = length c.args.buffer.now in
    let j = c.in_ok-number.number in
    let m = c.index.result.now in
    let lies = image_told own c.args.self.now a n (Ok j) c.self.view_is c.in_ok-number.ensures in
    let both = found_window images a n j m lies c.index.ensures in
    let found = both.0 in
    let low = found.low in
    let high = found.high in
    let small = c.self.invariant.small j in
    let size = ap (λ (m : SpaceImage). m.size) found.image in
    omega (arith, low, high, small, size, c.base.ensures)

pub read-requires-clause-number : goal.read-requires-clause-number
read-requires-clause-number g c =
    let images = c.self.inside.images.items in
    let own = file_content images c.self.inside.bindings.items in
    let a = c.args.address in
    let n = length c.args.buffer.now in
    let j = c.in_ok-number.number in
    let m = c.index.result.now in
    let lies = image_told own c.args.self.now a n (Ok j) c.self.view_is c.in_ok-number.ensures in
    let both = found_window images a n j m lies c.index.ensures in
    let found = both.0 in
    still_there own c.args.self.now j c.self.view_is found.place

pub read-requires-clause-inside : goal.read-requires-clause-inside
read-requires-clause-inside g c =
    let images = c.self.inside.images.items in
    let own = file_content images c.self.inside.bindings.items in
    let a = c.args.address in
    let n = length c.args.buffer.now in
    let j = c.in_ok-number.number in
    let m = c.index.result.now in
    let lies = image_told own c.args.self.now a n (Ok j) c.self.view_is c.in_ok-number.ensures in
    let both = found_window images a n j m lies c.index.ensures in
    let found = both.0 in
    let size = ap (λ (m : SpaceImage). m.size) found.image in
    omega (arith, both.1, size, same_size own c.args.self.now j c.self.view_is found.place, c.base.ensures)

pub returns-in_err-number-clause-fault : goal.returns-in_err-number-clause-fault
returns-in_err-number-clause-fault g c =
    let fault = c.in_err-number.field-0.0 in
    let p = err_from_is_err_and c.from_residual.result c.from_residual.ensures.1 in
    rw (p.1, p.2) (window_refused c.args.self.now c.args.address (length c.args.buffer.now) fault (sym c.is_empty.ensures ∙ c.if-is_empty.false) c.in_err-number.ensures)

pub returns-clause-ok : goal.returns-clause-ok
returns-clause-ok g c =
    let images = c.self.inside.images.items in
    let own = file_content images c.self.inside.bindings.items in
    let a = c.args.address in
    let n = length c.args.buffer.now in
    let j = c.in_ok-number.number in
    let m = c.index.result.now in
    let lies = image_told own c.args.self.now a n (Ok j) c.self.view_is c.in_ok-number.ensures in
    let both = found_window images a n j m lies c.index.ensures in
    let found = both.0 in
    ap (λ (x : Content). window_at x a n) (sym c.self.view_is)
    ∙ window_told own a n (Ok j) (sym c.is_empty.ensures ∙ c.if-is_empty.false) lies
    ∙ ap (λ (xs : List ℕ). Ok xs)
    (window_found images c.self.inside.order.items c.self.inside.bindings.items c.self.inside.slots.items c.self.inside.counts.items c.self.invariant a j m found n both.1
    ∙ ap (λ (x : Content). bytes_in x j (a - m.base) n) c.self.view_is
    ∙ sym (c.read.ensures ∙ ap (λ (b : ℕ). bytes_in c.args.self.now j (a - b) n) c.base.ensures))

pub index-requires : goal.index-requires
index-requires g c =
    let images = c.self.inside.images.items in
    let lies = image_told (file_content images c.self.inside.bindings.items) c.args.self.now c.args.address (length c.args.buffer.now) (Ok c.in_ok-number.number) c.self.view_is c.in_ok-number.ensures in
    omega (arith, window_place images c.args.address (length c.args.buffer.now) c.in_ok-number.number lies, c.self.inside.images.ok.0)
