use Rattle.pe_text.proofs.Adding.{◌then◌}
use Rattle.pe_map_lines.specs.UnboundImports.{unbound_line}
use Rattle.pe_map_lines.proofs.unbound_imports.write_import.Goals as goal

pub returns : goal.returns
unfolding unbound_line
returns g c =
    c.text.ensures then c.decimal.ensures then c.text-2.ensures then c.hex.ensures then c.text-3.ensures then c.quoted.ensures then c.text-4.ensures then c.write_key.ensures then c.text-5.ensures
