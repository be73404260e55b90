use Rattle.pe_page.proofs.Adding.{◌and◌}
use Rattle.coff_archive_page.proofs.member_rows.write_members.Goals as goal

pub loop-shown-preserved : goal.loop-shown-preserved
loop-shown-preserved g c = record { ready = c.write_member.ensures.1.ready; adds = c.loop-shown.invariant.adds and c.write_member.ensures }
