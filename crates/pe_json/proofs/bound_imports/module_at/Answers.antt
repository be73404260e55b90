use Rattle.std.proofs.Common.{◌≡◌, true, false, arith, refl}
use Rattle.std.specs.Prelude.{nat_lt}
use Rattle.std.proofs.lemmas.Grind.{common_steps}
use Rattle.pe_layout.specs.Layout.{image_of}
use Rattle.pe_json.proofs.bound_imports.module_at.Goals as goal

pub returns-then-rva-size : goal.returns-then-rva-size
returns-then-rva-size c =
    let size = c.size-size.ensures.value in
    let past : nat_lt c.args.rva (image_of c.args.layout.now).size ≡ false = grind (arith, common_steps, size, c.if-rva-size.true) in
    rw past refl

pub returns : goal.returns
returns c =
    let size = c.size-size.ensures.value in
    let inside : nat_lt c.args.rva (image_of c.args.layout.now).size ≡ true = grind (arith, common_steps, size, c.if-rva-size.false) in
    rw inside (rw (c.len.ensures, c.name_bytes-bytes.ensures) at c.until_zero.ensures)
