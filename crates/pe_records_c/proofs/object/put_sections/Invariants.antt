use Rattle.std.proofs.Common.{◌≡◌, ℕ, ◌<◌, drop, get_or}
use Rattle.coff_read.specs.ObjectFile.{file_of}
use Rattle.coff_read.specs.Reading.{object_of}
use Rattle.coff_read.specs.Records.{Section}
use Rattle.coff_read.specs.SectionsLeft.{each_section_left}
use Rattle.pe_records_c.specs.ObjectRows.{section_text, section_row}
use Rattle.pe_records_c.specs.declared.object.ObjectSectionRow.{ObjectSectionRow}
use Rattle.pe_records_c.proofs.object.put_sections.Given as goal

abbrev pub invariant-loop-index : goal.invariant-loop-index
invariant-loop-index l = record {
  told : (section : Section) (row : ObjectSectionRow) (k : ℕ) → k < l.index → section_text (get_or l.rows k row) ≡ section_row (get_or (object_of (file_of l.object)).sections k section);
  others : drop l.index l.rows ≡ drop l.index l.initial.rows;
  left : each_section_left l.sections ≡ drop l.index (object_of (file_of l.object)).sections;
}
