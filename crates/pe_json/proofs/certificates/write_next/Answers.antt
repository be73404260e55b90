use Rattle.pe_text.proofs.Adding.{◌then◌}
use Rattle.pe_json.specs.JsonText.{with_commas}
use Rattle.pe_json.specs.Listed.{more}
use Rattle.pe_json.proofs.Objects.{ended}
use Rattle.pe_json.proofs.certificates.write_next.Goals as goal

pub returns-then-first-clause-adds : goal.returns-then-first-clause-adds
unfolding with_commas
returns-then-first-clause-adds g c = rw c.if-first.true c.write_certificate.ensures.adds

pub returns-else-first-clause-adds : goal.returns-else-first-clause-adds
unfolding more
returns-else-first-clause-adds g c = rw c.if-first.false (ended (c.text.ensures then c.write_certificate-else-first.ensures.adds))
