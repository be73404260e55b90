-- An archive in a buffer, which may have room for a part of it alone.
use Rattle.std.specs.Prelude.{◌≡◌, ℕ, List, ◌++◌, length, take, drop}
use Rattle.coff_library.specs.Members.{Member}
use Rattle.coff_library.specs.Written.{IsArchiveOf}

-- as many first bytes as there is room for; what is behind them is unchanged
pub record IsWrittenInto (members : List Member) (before after : List ℕ) (len : ℕ) : Type 0 where
  pub bytes : List ℕ
  pub archive : IsArchiveOf members bytes
  pub len_is : len ≡ length bytes
  pub buffer : after ≡ take (length before) bytes ++ drop (length bytes) before
