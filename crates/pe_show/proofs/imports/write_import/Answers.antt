use Rattle.pe_text.proofs.Adding.{◌then◌}
use Rattle.pe_show.specs.Rows.{import_row}
use Rattle.pe_show.proofs.imports.write_import.Goals as goal

pub returns : goal.returns
unfolding import_row
returns g c = c.text.ensures then (c.hex_at_least.ensures then (c.text-2.ensures then (c.write_key.ensures then c.text-3.ensures)))
