use Rattle.std.proofs.Common.{◌≡◌, ℕ, ◌<◌, drop, get_or}
use Rattle.coff_read.specs.EitherLeft.{each_either_section_left}
use Rattle.coff_read.specs.EitherObject.{file_of, form_of}
use Rattle.coff_read.specs.FormReading.{object_of}
use Rattle.coff_read.specs.Records.{Section}
use Rattle.pe_records_c.specs.ObjectRows.{section_text, section_row}
use Rattle.pe_records_c.specs.declared.object.ObjectSectionRow.{ObjectSectionRow}
use Rattle.c_tables.proofs.section.put_sections.Given as goal

abbrev pub invariant-loop-index : goal.invariant-loop-index
invariant-loop-index l = record {
  told : (section : Section) (row : ObjectSectionRow) (k : ℕ) → k < l.index → section_text (get_or l.rows k row) ≡ section_row (get_or (object_of (form_of l.object) (file_of l.object)).sections k section);
  others : drop l.index l.rows ≡ drop l.index l.initial.rows;
  left : each_either_section_left l.sections ≡ drop l.index (object_of (form_of l.object) (file_of l.object)).sections;
}
