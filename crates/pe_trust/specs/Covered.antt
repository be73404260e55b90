-- What an Authenticode signature covers, said by the file alone: which of its bytes are left out, and where raw data lie.
use Rattle.std.specs.Prelude.{◌≡◌, ℕ, ◌+◌, ◌≤◌, ◌&&◌, ◌||◌, Bool, not, List, length, map, filter, Option, None, Some, slice_get}
use Rattle.std.specs.List.{range_with_len}
use Rattle.pe_view.specs.Number.{byte_of, is_in}
use Rattle.pe_head.specs.declared.directory.Directory.{Directory}
use Rattle.pe_head.specs.declared.headers.Headers.{Headers}
use Rattle.pe_head.specs.declared.section.SectionHeader.{SectionHeader}
use Rattle.pe_trust.specs.CertificateTable.{is_absent}
use Rattle.pe_trust.specs.SignedBytes.{check_sum_place, directory_place, gaps_in}

-- a file offset is one of the four of CheckSum, of the eight of the entry of directory 4, or of the certificate table
abbrev pub is_left_out_by : Headers → Option Directory → ℕ → Bool
is_left_out_by h None offset = is_in (check_sum_place h) 4 offset
is_left_out_by h (Some t) offset = is_in (check_sum_place h) 4 offset || (is_in (directory_place h) 8 offset || (not (is_absent t) && is_in t.rva t.size offset))

abbrev pub is_left_out : Headers → ℕ → Bool
is_left_out h offset = is_left_out_by h (slice_get h.directories.items 4) offset

-- the file's bytes at all other offsets, each once, in order
abbrev pub bytes_not_left_out : List ℕ → Headers → List ℕ
bytes_not_left_out file h = map (byte_of file) (filter (λ offset. not (is_left_out h offset)) (range_with_len 0 (length file)))

-- where the certificate table begins in a file of a length; at its end if there is none
abbrev pub table_begin : ℕ → Headers → ℕ
table_begin len h = (gaps_in len h).table

-- the raw data of a section, if it has any, lie whole between the headers and an end
pub record LieBetween (start end : ℕ) (s : SectionHeader) : Type 0 where
  pub low : start ≤ s.pointer_to_raw_data
  pub high : s.pointer_to_raw_data + s.size_of_raw_data ≤ end

abbrev pub RawDataLieBetween : ℕ → ℕ → SectionHeader → Type 0
RawDataLieBetween start end s = (s.size_of_raw_data ≡ 0 → ⊥) → LieBetween start end s
