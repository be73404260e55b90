use Rattle.std.proofs.Common.{◌≡◌, ◌-◌, arith, take}
use Rattle.std.proofs.lemmas.List.{take_all}
use Rattle.pe_text.specs.FaultWords.{hex_text}
use Rattle.pe_text.specs.Text.{hex}
use Rattle.pe_text.proofs.HexDigits.{hex_shown, length-hex}
use Rattle.pe_text.proofs.fault_text.with_hex.Goals as goal

pub returns-clause-text : goal.returns-clause-text
returns-clause-text c =
    let width = c.hex_width-width.result in
    let bound = c.hex_width-width.ensures.bound in
    let shown : hex width c.args.number ≡ hex_text c.args.number = rw c.hex_width-width.ensures.value (hex_shown c.args.number (omega (arith, c.ranges.number))) in
    let all : 16 - (16 - width) ≡ width = omega (arith, bound) in
    let whole : take width (hex width c.args.number) ≡ hex width c.args.number = take_all width _ (let count = length-hex width c.args.number in omega (arith, count)) in
    rw (c.hex_digits-digits.ensures, all, whole, shown) at c.with_place.ensures

pub returns-clause-short : goal.returns-clause-short
returns-clause-short c =
    let shown : hex c.hex_width-width.result c.args.number ≡ hex_text c.args.number = rw c.hex_width-width.ensures.value (hex_shown c.args.number (omega (arith, c.ranges.number))) in
    rw (← shown, length-hex c.hex_width-width.result c.args.number) c.hex_width-width.ensures.bound
