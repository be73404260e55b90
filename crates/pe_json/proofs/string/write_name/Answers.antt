use Rattle.pe_json.proofs.string.write_name.Goals as goal

pub returns-then-has_failed : goal.returns-then-has_failed
returns-then-has_failed g c = c.has_failed.ensures.ends c.if-has_failed.true _
