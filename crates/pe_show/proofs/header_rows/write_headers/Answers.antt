use Rattle.pe_page.proofs.Adding.{◌and◌}
use Rattle.pe_show.proofs.header_rows.write_headers.Goals as goal

pub returns : goal.returns
returns g c = c.write_stamp.ensures and c.write_versions.ensures and c.write_base.ensures and c.write_entry.ensures and c.write_sizes.ensures and c.write_flag_row.ensures and c.write_flag_row-2.ensures
