use Rattle.std.proofs.Common.{◌++◌, codes}
use Rattle.pe_json.specs.FindingRows.{finding_row}
use Rattle.pe_json.proofs.Objects.{left-out, rows_left}
use Rattle.pe_json.proofs.findings.write_rest.Goals as goal

pub returns-then-has_failed : goal.returns-then-has_failed
returns-then-has_failed g c = left-out _ _ _ _ _ c.loop-finding.invariant.adds (c.has_failed.ensures.ends c.if-has_failed.true)
    (rows_left (λ f. codes "," ++ finding_row f) c.loop-finding.finding-index c.args.findings.now)
