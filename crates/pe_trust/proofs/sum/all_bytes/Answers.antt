use Rattle.std.proofs.Common.{◌∙◌, arith}
use Rattle.std.proofs.lemmas.List.{take_all}
use Rattle.pe_view.specs.View.{bytes_of}
use Rattle.pe_trust.proofs.sum.all_bytes.Goals as goal

pub returns : goal.returns
returns c =
    (rw c.unwrap.ensures at c.slice.ensures.value) ∙ take_all c.len-len.result (bytes_of c.args.file) (let e = c.len-len.ensures in omega (arith, e))
