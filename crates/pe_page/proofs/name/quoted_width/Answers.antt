use Rattle.std.proofs.Common.{◌≡◌, ◌+◌, length, take, arith, take_all}
use Rattle.std.specs.Prelude.{codes, flat_map}
use Rattle.std.proofs.lemmas.List.{length-append}
use Rattle.pe_text.specs.Text.{escaped, quoted}
use Rattle.pe_page.proofs.name.quoted_width.Goals as goal

pub returns-clause-value : goal.returns-clause-value
unfolding quoted
returns-clause-value c =
    let name = c.args.name.now in
    let whole : take c.loop-byte.byte-index name ≡ name = take_all c.loop-byte.byte-index name (omega (arith, c.loop-byte-test.false)) in
    let width : c.loop-byte.width ≡ 2 + length (flat_map escaped name) = rw whole at c.loop-byte.invariant.value in
    omega (arith, width, length-append (flat_map escaped name) (codes "\""))
