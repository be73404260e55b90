use Rattle.pe_lines.specs.Dump.{field_lines}
use Rattle.pe_text.proofs.Adding.{◌then◌}
use Rattle.pe_lines.proofs.dump_lines.write_header_fields.Goals as goal

pub returns : goal.returns
unfolding field_lines
returns g c =
    let coff = rw c.coff_fields.ensures at c.write_fields.ensures in
    let standard = rw c.standard_fields.ensures at c.write_fields-2.ensures in
    let windows = rw c.windows_fields.ensures at c.write_fields-3.ensures in
    c.write_machine.ensures then coff then standard then c.write_base_of_data.ensures then windows
