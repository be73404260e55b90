-- Sizes of parts of an archive, and of all of it, counted without making them.
use Rattle.std.specs.Prelude.{ℕ, ◌+◌, ◌-◌, ◌^◌, ◌<◌, ◌≤◌, min, List, [], ◌∷◌, length}
use Rattle.std.specs.List.{All}
use Rattle.coff_library.specs.Members.{Member}
use Rattle.coff_library.specs.Symbols.{symbols_of}
use Rattle.coff_library.specs.Written.{room, first_size, second_size, long_names, members_start}

-- a number capped at the greatest of 64 bits
abbrev pub counted : ℕ → ℕ
counted n = min n (2 ^ 64 - 1)

-- how many bytes members take
abbrev pub records_size : List Member → ℕ
records_size [] = 0
records_size (m ∷ ms) = room (length m.bytes) + records_size ms

-- how many bytes the archive of members has
abbrev pub archive_len : List Member → ℕ
archive_len members = members_start members + records_size members

-- What members must have to be written, besides names that can be read back.
pub record IsWritable (members : List Member) : Type 0 where
  pub few : length members ≤ 65535
  pub first : first_size (symbols_of members) < 2 ^ 32
  pub second : second_size (length members) (symbols_of members) < 2 ^ 32
  pub names : length (long_names members) < 2 ^ 32
  pub sizes : All (λ (m : Member). length m.bytes < 2 ^ 32) members
