-- The data of entries of the debug directory that are no CodeView records.
use Rattle.std.specs.Prelude.{ℕ, ◌+◌, ◌||◌, nat_lt, List, drop, length, Option, None, Some, option_map, if◌then◌else◌}
use Rattle.pe_view.specs.Number.{part}
use Rattle.pe_view.specs.Text.{text_between}
use Rattle.pe_records.specs.Records.{number}
use Rattle.pe_records.specs.declared.debug_data.FeatureCounts.{FeatureCounts}
use Rattle.pe_records.specs.declared.debug_data.PdbChecksum as code

-- REPRO: a length of four bytes, and as many bytes of a hash
abbrev pub repro_hash_of : List ℕ → Option (List ℕ)
repro_hash_of bytes =
    if nat_lt (length bytes) 4 || nat_lt (length bytes) (4 + number 4 bytes 0) then None else Some (part bytes 4 (number 4 bytes 0))

-- PDBCHECKSUM: the name of an algorithm, which a zero byte ends, and the bytes of the checksum
pub record PdbChecksum : Type 0 where
  pub algorithm : List ℕ
  pub checksum : List ℕ

abbrev pub pdb_checksum_of : List ℕ → Option PdbChecksum
pdb_checksum_of bytes =
    option_map (λ name. record { algorithm = name; checksum = drop (length name + 1) bytes }) (text_between bytes 0 (length bytes))

abbrev pub pdb_checksum_view : code.PdbChecksum → PdbChecksum
pdb_checksum_view c = record { algorithm = c.algorithm.now; checksum = c.checksum.now }

-- VC_FEATURE: five counts
abbrev pub feature_counts_of : List ℕ → Option FeatureCounts
feature_counts_of bytes =
    if nat_lt (length bytes) 20 then None
    else Some (record { before_vc_11 = number 4 bytes 0; c_and_cpp = number 4 bytes 4; gs = number 4 bytes 8; sdl = number 4 bytes 12; guard = number 4 bytes 16 })
