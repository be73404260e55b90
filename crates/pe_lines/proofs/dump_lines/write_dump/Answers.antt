use Rattle.pe_lines.specs.Dump.{dump_text}
use Rattle.pe_text.proofs.Adding.{◌then◌}
use Rattle.pe_lines.proofs.dump_lines.write_dump.Goals as goal

pub returns : goal.returns
unfolding dump_text
returns g c =
    let directories = rw c.as_slice.ensures.value at c.write_directories.ensures in
    let sections = rw c.as_slice-2.ensures.value at c.write_sections.ensures in
    c.write_format.ensures then c.write_pe_offset.ensures then c.write_header_fields.ensures then directories then sections then c.write_exports.ensures then c.write_imports.ensures then c.write_fixups.ensures then c.text.ensures
