-- The bytes of an image's file that an Authenticode signature signs, as "Windows Authenticode Portable Executable Signature Format" tells
-- them under "Calculating the PE Image Hash": the headers without CheckSum and the entry of directory 4, then the raw data of each
-- section in ascending order, then what comes after them, without as many bytes as the certificate table has.
use Rattle.std.specs.Prelude.{ℕ, ◌+◌, ◌-◌, ◌==◌, ◌&&◌, Bool, true, nat_le, List, [], ◌∷◌, length, flat_map, sum_by, slice_range, slice_get, unwrap_or, ◌++◌, Option, None, Some, if◌then◌else◌}
use Rattle.std.specs.List.{insert, position}
use Rattle.pe_view.specs.Number.{part}
use Rattle.pe_head.specs.declared.directory.Directory.{Directory}
use Rattle.pe_head.specs.declared.headers.Headers.{Headers}
use Rattle.pe_head.specs.declared.section.SectionHeader.{SectionHeader}
use Rattle.pe_head.specs.Optional.{fixed_size_of}
use Rattle.pe_trust.specs.CertificateTable.{is_absent}
use Rattle.pe_trust.specs.declared.signed_bytes.LeftOut.{LeftOut}
use Rattle.pe_trust.specs.declared.signed_bytes.Parts.{Parts}

-- where the field CheckSum stands, and where the entry of directory 4 does
abbrev pub check_sum_place : Headers → ℕ
check_sum_place h = h.pe_offset + 88

abbrev pub directory_place : Headers → ℕ
directory_place h = h.pe_offset + 24 + fixed_size_of h.magic + 32

-- what is left out behind CheckSum, by file offsets
pub record Gaps : Type 0 where
  pub entry : ℕ
  pub entry_end : ℕ
  pub table : ℕ
  pub table_end : ℕ

-- of the entry's place and the directory: no table is as one of no bytes at the end of the file
abbrev pub gaps_by : ℕ → ℕ → Directory → Gaps
gaps_by len entry t =
    record {
      entry = entry;
      entry_end = entry + 8;
      table = if is_absent t then len else t.rva;
      table_end = if is_absent t then len else t.rva + t.size;
    }

-- headers without directory 4 have neither
abbrev pub gaps_of : ℕ → Headers → Option Directory → Gaps
gaps_of len h None = record { entry = check_sum_place h + 4; entry_end = check_sum_place h + 4; table = len; table_end = len }
gaps_of len h (Some t) = gaps_by len (directory_place h) t

abbrev pub gaps_in : ℕ → Headers → Gaps
gaps_in len h = gaps_of len h (slice_get h.directories.items 4)

-- the size of the certificate table, 0 without one
abbrev pub table_size : Option Directory → ℕ
table_size None = 0
table_size (Some t) = if is_absent t then 0 else t.size

-- the first of sections in ascending order of PointerToRawData that does not begin before a file offset
abbrev pub first_from : List SectionHeader → ℕ → Option ℕ
first_from ascending start = position (λ (other : SectionHeader). nat_le start other.pointer_to_raw_data) ascending

-- The table of section headers in ascending order of PointerToRawData, without those whose SizeOfRawData is 0: each is put before the
-- first that does not begin before it.
abbrev pub placed : SectionHeader → List SectionHeader → List SectionHeader
placed s ascending = insert ascending (unwrap_or (first_from ascending s.pointer_to_raw_data) (length ascending)) s

abbrev pub placed_if : SectionHeader → List SectionHeader → List SectionHeader
placed_if s ascending = if s.size_of_raw_data == 0 then ascending else placed s ascending

abbrev pub ascending_with : List SectionHeader → List SectionHeader → List SectionHeader
ascending_with ascending [] = ascending
ascending_with ascending (s ∷ ss) = ascending_with (placed_if s ascending) ss

abbrev pub ascending_sections : Headers → List SectionHeader
ascending_sections h = ascending_with [] h.sections.items

-- SizeOfHeaders bytes without CheckSum and the entry of directory 4
abbrev pub header_bytes : List ℕ → Headers → Gaps → List ℕ
header_bytes file h g =
    (slice_range file 0 (check_sum_place h) ++ slice_range file (check_sum_place h + 4) g.entry) ++ slice_range file g.entry_end h.size_of_headers

-- the raw data of sections
abbrev pub section_bytes : List ℕ → List SectionHeader → List ℕ
section_bytes file ss = flat_map (λ (s : SectionHeader). part file s.pointer_to_raw_data s.size_of_raw_data) ss

-- SUM_OF_BYTES_HASHED: SizeOfHeaders, and SizeOfRawData of each section
abbrev pub bytes_hashed : ℕ → List SectionHeader → ℕ
bytes_hashed headers ss = headers + sum_by (λ (s : SectionHeader). s.size_of_raw_data) ss

-- the bytes from SUM_OF_BYTES_HASHED on, as many as the file has more than the certificate table and SUM_OF_BYTES_HASHED together
abbrev pub bytes_behind : List ℕ → ℕ → ℕ → List ℕ
bytes_behind file hashed table = part file hashed (length file - (table + hashed))

abbrev pub hashed_bytes : List ℕ → Headers → List SectionHeader → List ℕ
hashed_bytes file h ss =
    header_bytes file h (gaps_in (length file) h)
    ++ (section_bytes file ss ++ bytes_behind file (bytes_hashed h.size_of_headers ss) (table_size (slice_get h.directories.items 4)))

-- each begins where the one before it ends, the first at a file offset
abbrev pub is_gapless : ℕ → List SectionHeader → Bool
is_gapless start [] = true
is_gapless start (s ∷ ss) = (s.pointer_to_raw_data == start) && is_gapless (start + s.size_of_raw_data) ss

-- The entry is in the headers, raw data follow the headers without a gap or an overlap, and the certificate table is behind them at the
-- end of the file. If not, the rule hashes bytes twice or not at all, or some of the table.
abbrev pub is_unambiguous : ℕ → Headers → Gaps → List SectionHeader → Bool
is_unambiguous len h g ss =
    is_gapless h.size_of_headers ss && (nat_le g.entry_end h.size_of_headers && (nat_le (bytes_hashed h.size_of_headers ss) g.table && (g.table_end == len)))

-- what is signed; nothing where the rule is ambiguous
abbrev pub authenticode_bytes : List ℕ → Headers → Option (List ℕ)
authenticode_bytes file h =
    if is_unambiguous (length file) h (gaps_in (length file) h) (ascending_sections h) then Some (hashed_bytes file h (ascending_sections h)) else None

-- what the code holds of them
abbrev pub gaps_view : LeftOut → Gaps
gaps_view l = record { entry = l.entry; entry_end = l.entry_end; table = l.table; table_end = l.table_end }

abbrev pub parts_view : Parts → List ℕ
parts_view p = (p.first.now ++ p.second.now) ++ p.third.now
