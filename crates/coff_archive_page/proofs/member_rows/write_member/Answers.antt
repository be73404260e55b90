use Rattle.pe_page.proofs.Adding.{◌and◌}
use Rattle.coff_archive_page.proofs.member_rows.write_member.Goals as goal

pub returns : goal.returns
returns g c = c.write_columns.ensures and c.write_imported.ensures and (_, c.text.ensures) and c.write_contents_fault.ensures
