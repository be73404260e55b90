-- What is put in is how the query ended.
use Rattle.pe_set.proofs.Remembering.{kept}
use Rattle.pe_set.proofs.remembered.Remembered.keep_query.Goals as goal

pub returns : goal.returns
returns g c = λ s image name key known stands is.
    kept s image c.args.self.now.ends c.insert.new.self c.args.query c.args.end name key known stands is c.in_ok-insert.ensures.updates
