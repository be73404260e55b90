-- Where long names end in the member `//`.
use Rattle.std.specs.Prelude.{◌≡◌, ℕ, ◌+◌, ◌*◌, ◌<◌, ◌≤◌, List, length, drop, slice_index}
use Rattle.coff_archive.specs.Bytes.{up_to}
use Rattle.coff_archive.specs.Names.{ends_text}

-- the offset of the first end from an offset on, or where the bytes end
unfoldable pub end_from : List ℕ → ℕ → ℕ
end_from names offset = offset + length (up_to ends_text (drop offset names))

-- the first end from the beginning of each block of 256 bytes on
pub record AreEnds (names ends : List ℕ) : Type 0 where
  pub covers : length names ≤ 256 * length ends
  pub each : (block : ℕ) → block < length ends → slice_index ends block ≡ end_from names (256 * block)
