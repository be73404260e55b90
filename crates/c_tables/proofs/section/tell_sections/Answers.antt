-- The rows are those of the object's sections.
use Rattle.coff_read.specs.EitherObject.{file_of, form_of}
use Rattle.coff_read.specs.FormReading.{object_of}
use Rattle.pe_records_c.specs.ObjectRows.{section_text, section_row}
use Rattle.pe_records_c.proofs.Rows.{table_of}
use Rattle.c_tables.proofs.section.tell_sections.Goals as goal

pub returns : goal.returns
returns c =
    table_of section_text section_row (object_of (form_of c.args.object.now) (file_of c.args.object.now)).sections _ _ _ _ c.put_sections.ensures c.section_count.ensures c.table_status.ensures
