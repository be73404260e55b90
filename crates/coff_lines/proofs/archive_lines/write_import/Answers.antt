-- A line is the concatenation of its parts.
use Rattle.pe_text.proofs.Adding.{◌then◌}
use Rattle.coff_lines.specs.ArchiveLines.{import_line}
use Rattle.coff_lines.proofs.archive_lines.write_import.Goals as goal

pub returns : goal.returns
unfolding import_line
returns g c =
    let imported = rw c.import_name.ensures at c.write_imported.ensures in
    let kind = rw c.kind_name.ensures at c.text-5.ensures in
    let name = rw c.machine_name.ensures at c.write_name.ensures in
    c.text.ensures then (c.quoted.ensures then (c.text-2.ensures then (c.quoted-2.ensures then (imported then (c.text-3.ensures then (c.decimal.ensures then (c.text-4.ensures then (kind then (c.text-6.ensures then (c.hex.ensures then (name then c.text-7.ensures)))))))))))
