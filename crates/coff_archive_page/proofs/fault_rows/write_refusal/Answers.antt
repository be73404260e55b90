use Rattle.pe_page.proofs.Adding.{◌and◌}
use Rattle.coff_archive_page.proofs.fault_rows.write_refusal.Goals as goal

pub returns : goal.returns
returns g c = c.begin_refusal.ensures and c.write_kind.ensures and c.end_refusal.ensures
