use Rattle.pe_page.proofs.Adding.{◌and◌}
use Rattle.pe_resource_pages.proofs.version_rows.write_fields.Goals as goal

pub returns : goal.returns
returns g c = c.write_version_row.ensures and c.write_version_row-2.ensures and c.write_field.ensures and c.write_field-2.ensures and c.write_field-3.ensures and c.write_field-4.ensures and c.write_field-5.ensures
