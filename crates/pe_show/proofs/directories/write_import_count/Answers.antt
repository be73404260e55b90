use Rattle.pe_page.proofs.Adding.{◌and◌}
use Rattle.pe_show.proofs.directories.write_import_count.Goals as goal

pub returns : goal.returns
returns g c = c.write_cells.ensures and c.write_runs.ensures and c.write_more.ensures
