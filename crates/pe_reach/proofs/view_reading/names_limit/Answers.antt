use Rattle.std.proofs.Common.{Result, sym, subst}
use Rattle.pe_view.specs.declared.fault.Fault.{Fault}
use Rattle.pe_head.specs.declared.headers.Headers.{Headers}
use Rattle.pe_reach.specs.Settled.{IsNamed}
use Rattle.pe_reach.proofs.Looks.{named}
use Rattle.pe_reach.proofs.view_reading.names_limit.Goals as goal

pub returns-in-Ok-clause-named : goal.returns-in-Ok-clause-named
returns-in-Ok-clause-named c =
    let begin = c.args.begin.now in
    λ reach. subst (λ (r : Result Headers Fault). IsNamed c.args.len begin r) (sym c.in-Ok.is)
    (named c.args.len begin c.in-Ok.headers c.names_end.result c.if-begin-len.true (rw c.min.ensures at reach) c.names_end.ensures.enough)
