use Rattle.std.proofs.Common.{◌≡◌, ◌∙◌, ◌++◌, [], drop, append-nil, arith, rules, sym}
use Rattle.std.proofs.lemmas.List.{drop_all}
use Rattle.petool.specs.WordBytes.{word_bytes}
use Rattle.petool.proofs.word_bytes.unmarked.Goals as goal

pub returns : goal.returns
unfolding word_bytes
returns g c =
    let string = c.as_bytes-string.result.now in
    let none : drop c.loop-at.at string ≡ [] = drop_all c.loop-at.at string (omega (arith, c.loop-at-test.false)) in
    let done : c.loop-at.bytes.items ++ [] ≡ word_bytes string = rw none at c.loop-at.invariant.done in
    sym (append-nil c.loop-at.bytes.items) ∙ done ∙ search rules
