use Rattle.std.proofs.Common.{◌≡◌, ℕ, ◌<◌, drop, get_or}
use Rattle.pe_head.specs.declared.section.SectionHeader.{SectionHeader}
use Rattle.coff_read.specs.BigObjectFile.{big_file_of, big_section_headers}
use Rattle.pe_records_c.specs.ObjectHeaderRows.{section_header_row}
use Rattle.pe_records_c.specs.declared.object_headers.SectionHeaderRow.{SectionHeaderRow}
use Rattle.c_tables.proofs.header.fill_headers.Given as goal

abbrev pub invariant-loop-index : goal.invariant-loop-index
invariant-loop-index l = record {
  told : (header : SectionHeader) (row : SectionHeaderRow) (k : ℕ) → k < l.index → get_or l.rows k row ≡ section_header_row (get_or (big_section_headers (big_file_of l.object)) k header);
  others : drop l.index l.rows ≡ drop l.index l.initial.rows;
}
