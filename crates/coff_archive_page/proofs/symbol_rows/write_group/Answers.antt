use Rattle.pe_page.proofs.Adding.{◌and◌}
use Rattle.coff_archive_page.proofs.symbol_rows.write_group.Goals as goal

pub returns : goal.returns
returns g c = c.write_group_head.ensures and c.write_names.ensures
