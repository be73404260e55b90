use Rattle.std.proofs.Common.{◌≡◌, ◌≢◌, ◌++◌, [], drop}
use Rattle.pe_view.specs.Standing.{standing, tests_at}
use Rattle.pe_records.proofs.finding.add.Given as goal

abbrev pub invariant-loop-rule : goal.invariant-loop-rule
invariant-loop-rule g l =
    (l.findings.items ++ standing (tests_at l.image l.place (drop l.rule-index l.rules)) ≡ l.fn.findings.items ++ standing (tests_at l.image l.place l.rules))
    × (standing (tests_at l.image l.place (drop l.rule-index l.rules)) ≢ [] → standing (tests_at l.image l.place l.rules) ≢ [])
