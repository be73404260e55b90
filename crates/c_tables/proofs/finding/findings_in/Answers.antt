-- The findings are those of the file.
use Rattle.std.proofs.Common.{◌∙◌}
use Rattle.c_tables.proofs.Found.{same_findings}
use Rattle.c_tables.proofs.finding.findings_in.Goals as goal

pub returns-in_err-findings-clause-memory : goal.returns-in_err-findings-clause-memory
returns-in_err-findings-clause-memory c = λ _.
    let laid = c.in_ok-layout.ensures in
    (laid.0, λ none. c.in_err-findings.ensures.memory (same_findings c.in_ok-layout.layout c.args.file.now _ laid.1 c.new.ensures ∙ none))

pub returns-clause-exact : goal.returns-clause-exact
returns-clause-exact c =
    let laid = c.in_ok-layout.ensures in
    (laid.0, c.in_ok-findings.ensures.all ∙ same_findings c.in_ok-layout.layout c.args.file.now _ laid.1 c.new.ensures)
