-- A line is the concatenation of its parts.
use Rattle.pe_text.proofs.Adding.{◌then◌}
use Rattle.coff_lines.specs.ObjectLines.{relocation_line}
use Rattle.coff_lines.proofs.object_lines.write_relocation.Goals as goal

pub returns : goal.returns
unfolding relocation_line
returns g c =
    let name = rw c.type_name.ensures at c.write_name.ensures in
    c.text.ensures then (c.hex.ensures then (c.text-2.ensures then (c.decimal.ensures then (c.text-3.ensures then (c.decimal-2.ensures then (name then c.text-4.ensures))))))
