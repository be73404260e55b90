-- The blocks in the first block of version information, which come after the fixed part.
use Rattle.std.specs.Prelude.{ℕ, ◌+◌, min, List, length, if◌then◌else◌}
use Rattle.pe_version.specs.Blocks.{word, aligned}
use Rattle.pe_version.specs.FixedInfo.{has_key}

-- where they begin; without the key of version information there are none
abbrev pub files_at : List ℕ → ℕ
files_at bytes = if has_key bytes then aligned (40 + word bytes 2) else 0

-- where the first block ends, or the bytes if that is sooner
abbrev pub files_end : List ℕ → ℕ
files_end bytes = if has_key bytes then min (word bytes 0) (length bytes) else 0
