use Rattle.pe_reach.proofs.Headers.{headers_agree}
use Rattle.pe_reach.proofs.laws.headers_agree.Goals as goal

pub returns : goal.returns
returns c = headers_agree
