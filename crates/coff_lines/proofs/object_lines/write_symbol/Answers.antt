-- A line is the concatenation of its parts.
use Rattle.pe_text.proofs.Adding.{◌then◌}
use Rattle.coff_lines.specs.ObjectLines.{symbol_line}
use Rattle.coff_lines.proofs.object_lines.write_symbol.Goals as goal

pub returns : goal.returns
unfolding symbol_line
returns g c =
    let name = rw c.class_name.ensures at c.write_name.ensures in
    let count = rw c.aux_count.ensures at c.decimal-3.ensures in
    c.text.ensures then (c.decimal.ensures then (c.text-2.ensures then (c.quoted.ensures then (c.text-3.ensures then (c.hex.ensures then (c.text-4.ensures then (c.write_symbol_section.ensures then (c.text-5.ensures then (c.hex-2.ensures then (c.text-6.ensures then (c.decimal-2.ensures then (name then (c.text-7.ensures then (count then c.text-8.ensures))))))))))))))
