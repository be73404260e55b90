use Rattle.pe_set.proofs.EndsKnown.{kept_end}
use Rattle.pe_set.proofs.ends.Ends.keep.Goals as goal

pub returns : goal.returns
returns g c = λ s p known at ends.
    rw c.in_ok-insert.ensures.entries (kept_end s c.args.self.now.ends.entries c.args.at p c.args.end known at ends)
