-- Rows of the bytes that a signature signs, of the certificate table's findings, and of where a walk of entries stops, by hand.
use Rattle.std.proofs.Common.{◌≡◌, refl, ℕ, true, false, List, [], ◌∷◌, ◌++◌}
use Rattle.std.specs.Prelude.{None, Some, replicate}
use Rattle.std.specs.List.{range_with_len}
use Rattle.pe_head.specs.Head.{head_of}
use Rattle.pe_head.specs.declared.directory.Directory.{Directory}
use Rattle.pe_head.specs.declared.headers.Headers.{Headers}
use Rattle.pe_head.specs.declared.optional.Magic.TheVariants.{Pe32}
use Rattle.pe_head.specs.declared.section.SectionHeader.{SectionHeader}
use Rattle.pe_trust.specs.CertificateTable.{certificate_table}
use Rattle.pe_trust.specs.CertificateTests.{shares, stop_of}
use Rattle.pe_trust.specs.Overlay.{sections_end}
use Rattle.pe_trust.specs.SignedBytes.{ascending_with, authenticode_bytes, is_gapless}

-- a section whose raw data, of 0x200 bytes from 0x400 on, is padded, and one without raw data
abbrev raw : ℕ → ℕ → SectionHeader
raw pointer size = record {
  name = replicate 8 0;
  virtual_size = 0x10;
  virtual_address = 0x1000;
  size_of_raw_data = size;
  pointer_to_raw_data = pointer;
  pointer_to_relocations = 0;
  pointer_to_linenumbers = 0;
  number_of_relocations = 0;
  number_of_linenumbers = 0;
  characteristics = 0;
}

-- an entry of 9 bytes, which takes 16, and then one whose length passes the end
row_stop : stop_of (9 ∷ 0 ∷ 0 ∷ 0 ∷ (replicate 12 0 ++ 9 ∷ replicate 7 0)) 24 0 ≡ 16
row_stop = refl

-- an entry that ends where the table does
row_ended : stop_of (9 ∷ 0 ∷ 0 ∷ 0 ∷ replicate 5 0) 9 0 ≡ 16
row_ended = refl

-- a length of 7
row_short : stop_of (7 ∷ 0 ∷ 0 ∷ 0 ∷ replicate 5 0) 9 0 ≡ 0
row_short = refl

row_end : sections_end (raw 0x400 0x200 ∷ raw 0 0x9000 ∷ raw 0x200 0x200 ∷ []) ≡ 0x600
row_end = refl

-- a table that ends where the raw data begins, one with a byte of it, its last byte, and one behind it
row_before : shares (record { rva = 0x3f8; size = 8 }) (raw 0x400 0x200) ≡ false
row_before = refl

row_first : shares (record { rva = 0x3f8; size = 9 }) (raw 0x400 0x200) ≡ true
row_first = refl

row_last : shares (record { rva = 0x5ff; size = 8 }) (raw 0x400 0x200) ≡ true
row_last = refl

row_behind : shares (record { rva = 0x600; size = 8 }) (raw 0x400 0x200) ≡ false
row_behind = refl

row_no_data : shares (record { rva = 0x10; size = 8 }) (raw 0 0x200) ≡ false
row_no_data = refl

-- in ascending order of PointerToRawData, without one whose SizeOfRawData is 0
row_ascending : ascending_with [] (raw 0x600 0x200 ∷ raw 0x200 0x100 ∷ raw 0x400 0 ∷ raw 0x300 0x300 ∷ []) ≡ raw 0x200 0x100 ∷ raw 0x300 0x300 ∷ raw 0x600 0x200 ∷ []
row_ascending = refl

row_gapless : is_gapless 0x200 (raw 0x200 0x100 ∷ raw 0x300 0x300 ∷ raw 0x600 0x200 ∷ []) ≡ true
row_gapless = refl

row_gap : is_gapless 0x200 (raw 0x200 0x100 ∷ raw 0x301 0x300 ∷ []) ≡ false
row_gap = refl

row_overlap : is_gapless 0x200 (raw 0x200 0x100 ∷ raw 0x2ff 0x300 ∷ []) ≡ false
row_overlap = refl

row_late : is_gapless 0x200 (raw 0x201 0x100 ∷ []) ≡ false
row_late = refl

-- a file whose byte at each offset is that offset, with its signature at 0: CheckSum is at 88, the entry of directory 4 at 152
abbrev file : ℕ → List ℕ
file len = range_with_len 0 len

-- its headers: their size, the directories before directory 4, and this one
abbrev headers : ℕ → List Directory → List SectionHeader → Headers
headers size directories sections = record (head_of []) {
  magic = Pe32;
  pe_offset = 0;
  size_of_headers = size;
  directories = record { items = directories };
  sections = record { items = sections };
}

abbrev five : ℕ → ℕ → List Directory
five table size = replicate 4 (record { rva = 0; size = 0 }) ++ record { rva = table; size = size } ∷ []

-- two sections, the later of them first in the section table, from the end of the headers at 160 to 176
abbrev two : List SectionHeader
two = raw 168 8 ∷ raw 160 8 ∷ []

-- and bytes behind them up to a table of 8 bytes at 184, at the end of the file
row_signed : authenticode_bytes (file 192) (headers 160 (five 184 8) two) ≡ Some (range_with_len 0 88 ++ (range_with_len 92 60 ++ range_with_len 160 24))
row_signed = refl

row_table_next : authenticode_bytes (file 184) (headers 160 (five 176 8) two) ≡ Some (range_with_len 0 88 ++ (range_with_len 92 60 ++ range_with_len 160 16))
row_table_next = refl

-- no table
row_unsigned : authenticode_bytes (file 192) (headers 160 (five 3 0) two) ≡ Some (range_with_len 0 88 ++ (range_with_len 92 60 ++ range_with_len 160 32))
row_unsigned = refl

-- a size at the offset 0, which is no table, and an offset without a size
row_absent : authenticode_bytes (file 192) (headers 160 (five 0 8) two) ≡ Some (range_with_len 0 88 ++ (range_with_len 92 60 ++ range_with_len 160 32))
row_absent = refl

row_no_offset : certificate_table (headers 160 (five 0 8) two) ≡ None
row_no_offset = refl

row_no_size : certificate_table (headers 160 (five 8 0) two) ≡ None
row_no_size = refl

row_present : certificate_table (headers 160 (five 184 8) two) ≡ Some (record { rva = 184; size = 8 })
row_present = refl

row_four_only : certificate_table (headers 152 (replicate 4 (record { rva = 184; size = 8 })) two) ≡ None
row_four_only = refl

-- no entry of directory 4, and headers of 152 bytes
row_four : authenticode_bytes (file 168) (headers 152 (replicate 4 (record { rva = 0; size = 0 })) (raw 152 8 ∷ [])) ≡ Some (range_with_len 0 88 ++ range_with_len 92 76)
row_four = refl

-- a table in a section
row_in_section : authenticode_bytes (file 176) (headers 160 (five 168 8) two) ≡ None
row_in_section = refl

-- in a section and behind it, up to the end of the file
row_across : authenticode_bytes (file 184) (headers 160 (five 168 16) two) ≡ None
row_across = refl

-- in a gap between two sections, and in one behind the headers
row_in_gap : authenticode_bytes (file 184) (headers 160 (five 168 8) (raw 160 8 ∷ raw 176 8 ∷ [])) ≡ None
row_in_gap = refl

row_in_first_gap : authenticode_bytes (file 176) (headers 160 (five 160 8) (raw 168 8 ∷ [])) ≡ None
row_in_first_gap = refl

-- in the headers
row_in_headers : authenticode_bytes (file 176) (headers 168 (five 160 8) (raw 168 8 ∷ [])) ≡ None
row_in_headers = refl

-- a table with a byte behind it, and one that passes the file
row_behind_table : authenticode_bytes (file 193) (headers 160 (five 184 8) two) ≡ None
row_behind_table = refl

row_passes : authenticode_bytes (file 191) (headers 160 (five 184 8) two) ≡ None
row_passes = refl

-- sections with a gap, and that overlap, of a file without a table
row_sections_gap : authenticode_bytes (file 192) (headers 160 (five 0 0) (raw 160 8 ∷ raw 170 8 ∷ [])) ≡ None
row_sections_gap = refl

row_sections_overlap : authenticode_bytes (file 192) (headers 160 (five 0 0) (raw 160 8 ∷ raw 160 8 ∷ [])) ≡ None
row_sections_overlap = refl

-- a section that passes the file, and headers that end before the entry does
row_sections_pass : authenticode_bytes (file 175) (headers 160 (five 0 0) two) ≡ None
row_sections_pass = refl

row_short_headers : authenticode_bytes (file 192) (headers 159 (five 0 0) (raw 159 8 ∷ [])) ≡ None
row_short_headers = refl
