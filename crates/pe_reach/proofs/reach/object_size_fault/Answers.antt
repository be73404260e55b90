use Rattle.std.proofs.Common.{Some, ◌∙◌, ap, arith}
use Rattle.pe_view.specs.declared.fault.Place.TheVariants.{File}
use Rattle.pe_reach.proofs.Early.{object_too_large, either_too_large}
use Rattle.pe_reach.proofs.reach.object_size_fault.Goals as goal

pub returns-clause-fault : goal.returns-clause-fault
returns-clause-fault c = λ file size.
    object_too_large file (omega (arith, size, c.if-len-le-MOST.false)) ∙ ap (λ count. Some (record { number = 61; image = 0; place = File count })) size

pub returns-clause-either : goal.returns-clause-either
returns-clause-either c = λ file size.
    either_too_large file (omega (arith, size, c.if-len-le-MOST.false)) ∙ ap (λ count. Some (record { number = 61; image = 0; place = File count })) size
