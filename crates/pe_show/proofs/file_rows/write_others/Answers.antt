use Rattle.pe_page.proofs.Adding.{◌and◌}
use Rattle.pe_show.proofs.file_rows.write_others.Goals as goal

pub returns : goal.returns
returns g c = c.write_symbol_table.ensures and c.write_overlay.ensures and c.write_layout.ensures
