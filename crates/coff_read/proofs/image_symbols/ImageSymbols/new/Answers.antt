use Rattle.std.proofs.Common.{◌≡◌, ◌-◌, refl, arith}
use Rattle.coff_read.proofs.image_symbols.ImageSymbols.new.Goals as goal

pub returns : goal.returns
returns g c =
    let all : c.records_held.result - 0 ≡ c.records_held.result = omega arith in
    rw (all, c.new.ensures, c.records_held.ensures.value, c.from.ensures) refl
