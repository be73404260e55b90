-- The symbols come after the bodies.
use denote.Param.{number}
use Rattle.std.proofs.Common.{◌≡◌, ◌+◌, arith}
use Rattle.coff_object.specs.PartsView.{parts_view}
use Rattle.coff_object.specs.FormWritten.{symbols_start}
use Rattle.coff_object.specs.contracts.write.symbols_pointer.{BIG-type}
use Rattle.coff_object.proofs.write.symbols_pointer.Goals as goal

pub returns-then-has_strings : goal.returns-then-has_strings
returns-then-has_strings g c =
    let big = BIG-type g.row.A g.row.S (number g.row.BIG) in
    let o = parts_view g.S.WideSymbol.view c.args.object.now in
    let told = c.bodies_size.ensures in
    let fits = c.requires.form.bodies in
    let start = c.bodies_start.ensures in
    let sum : c.bodies_start.result + c.bodies_size.result ≡ symbols_start big o = omega (arith, told, fits, start) in
    rw (← c.if-has_strings.ensures) sum
