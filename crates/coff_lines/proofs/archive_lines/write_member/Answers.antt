-- After a failed write the line counts as written.
use Rattle.coff_lines.proofs.archive_lines.write_member.Goals as goal

pub returns-then-has_failed : goal.returns-then-has_failed
returns-then-has_failed g c = c.has_failed.ensures.ends c.if-has_failed.true _
