use Rattle.std.proofs.Common.{◌∙◌, sym}
use Rattle.pe_reach.proofs.Looks.{settled}
use Rattle.pe_reach.proofs.view_reading.image_limit.Goals as goal

pub returns-in-Some-clause-settled : goal.returns-in-Some-clause-settled
returns-in-Some-clause-settled c = λ more size.
    let decides = c.in-Some.ensures.decides in
    settled c.args.len c.args.begin.now more c.in-Some.end (sym c.starts_with.ensures.value ∙ c.if-not-starts_with.false) c.if-begin-len.true decides.0 decides.2 (size ∙ c.max.ensures)
