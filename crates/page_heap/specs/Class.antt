-- The sizes of blocks: 16 bytes, and each twice the one before.
use Rattle.std.specs.Prelude.{ℕ, ◌-◌, ◌*◌, ◌^◌, max}
use Rattle.std.specs.Int.{w64, leading_zeros}

-- the number of the smallest size that has room for n bytes: 0 for up to 16, 1 for up to 32, and so on
abbrev pub class_of : ℕ → ℕ
class_of n = 60 - leading_zeros w64 (max n 16 - 1)

-- the size with this number
abbrev pub class_size : ℕ → ℕ
class_size k = 16 * 2 ^ k

-- the size of the block for a request of n bytes
abbrev pub block_size : ℕ → ℕ
block_size n = class_size (class_of n)
