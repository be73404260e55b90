use Rattle.pe_lines.specs.TableLines.{import_line}
use Rattle.pe_text.proofs.Adding.{◌then◌}
use Rattle.pe_lines.proofs.table_lines.write_import.Goals as goal

pub returns : goal.returns
unfolding import_line
returns g c =
    c.text.ensures then c.quoted.ensures then c.text-2.ensures then c.write_key.ensures then c.text-3.ensures then c.hex.ensures then c.text-4.ensures
