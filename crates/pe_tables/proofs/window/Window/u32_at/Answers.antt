-- The number is among the bytes that were read.
use Rattle.std.proofs.Common.{◌≡◌, ◌∙◌, ℕ, ◌+◌, ◌-◌, List, ap, arith}
use Rattle.pe_view.specs.Number.{num, byte_of}
use Rattle.pe_view.specs.View.{bytes_of}
use Rattle.pe_layout.specs.Image.{number_at}
use Rattle.pe_layout.specs.Layout.{image_of}
use Rattle.pe_tables.proofs.Entries.{number_of_part}
use Rattle.pe_tables.proofs.window.Window.u32_at.Goals as goal

pub returns-clause-number : goal.returns-clause-number
returns-clause-number c =
    let i = image_of c.args.layout.now in
    let w = c.hold.new.self in
    let rva : ℕ = c.args.rva in
    let bytes : List ℕ = bytes_of c.view.result in
    let begins = c.hold.ensures.holds.begins in
    let ends = c.hold.ensures.holds.ends in
    let at : w.start + (rva - w.start) ≡ rva = omega (arith, begins) in
    (rw c.unwrap.ensures at c.u32_at.ensures).1 ∙ ap (λ (m : ℕ). num (byte_of bytes) m 4) c.from.ensures
    ∙ number_of_part i w.start w.len bytes (c.view.ensures.bytes i c.hold.ensures.window) 4 (rva - w.start) (omega (arith, begins, ends)) ∙ ap (number_at 4 i) at
