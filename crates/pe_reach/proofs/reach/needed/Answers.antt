use Rattle.std.proofs.Common.{◌≤◌, length, arith}
use Rattle.pe_reach.specs.Reach.{headers_end}
use Rattle.pe_reach.proofs.Images.{decide_with}
use Rattle.pe_reach.proofs.reach.needed.Goals as goal

pub returns-clause-decides : goal.returns-clause-decides
returns-clause-decides c =
    let begin = c.args.begin.now in
    let ends = c.in_ok-headers_end.ensures.ends in
    let held : headers_end begin ≤ length begin = omega (arith, ends.0, c.if-headers_end-begin.false) in
    (omega (arith, c.if-end-len.false), omega (arith, c.if-len-gt-MOST.false), λ more reach fits. decide_with begin more c.args.len held (omega (arith, c.if-len-gt-MOST.false)) (omega (arith, ends.1, reach)) fits)
