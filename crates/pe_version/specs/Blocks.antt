-- Blocks of version information, one after the other.
use Rattle.std.specs.Prelude.{ℕ, zero, suc, ◌+◌, ◌*◌, ◌/◌, ◌&&◌, nat_le, Bool, List, ◌++◌, if◌then◌else◌}
use Rattle.pe_view.specs.Number.{num, byte_of}

-- the number in the two bytes at an offset
abbrev pub word : List ℕ → ℕ → ℕ
word bytes at = num (byte_of bytes) at 2

-- the next multiple of 4
abbrev pub aligned : ℕ → ℕ
aligned n = (n + 3) / 4 * 4

-- a whole block is at an offset: at least 6 bytes before an end, as many as its length says
abbrev pub is_block : List ℕ → ℕ → ℕ → Bool
is_block bytes end at = nat_le (at + 6) end && (nat_le 6 (word bytes at) && nat_le (at + word bytes at) end)

-- where the block at an offset ends
abbrev pub block_end : List ℕ → ℕ → ℕ
block_end bytes at = at + word bytes at

module _ {X : Type 0} (each : ℕ × ℕ → List X) (last : ℕ → List X) (bytes : List ℕ) (end : ℕ) where
  -- What the blocks from an offset on give, each by where it starts and ends, and what the offset gives where no further block is.
  -- There are at most so many blocks.
  abbrev pub blocks_from : ℕ → ℕ → List X
  blocks_from zero at = last at
  blocks_from (suc most) at =
      if is_block bytes end at then each (at, block_end bytes at) ++ blocks_from most (aligned (block_end bytes at)) else last at

  -- there are no more than bytes
  abbrev pub in_blocks : ℕ → List X
  in_blocks at = blocks_from end at
