-- Numbers in bytes. "PE Format" stores every number with its lowest byte first.
use Rattle.std.specs.Prelude.{ℕ, zero, suc, ◌+◌, ◌*◌, ◌/◌, ◌%◌, ◌^◌, ◌&&◌, Bool, nat_le, nat_lt, List, map, take, drop, slice_index}
use Rattle.std.specs.List.{range_with_len}

-- the byte of a file at each offset, and 0 past its end
abbrev pub byte_of : List ℕ → ℕ → ℕ
byte_of bytes offset = slice_index bytes offset

-- The number in the `width` bytes at a place, where `byte` gives the byte at each place: those of a file, or those of a laid-out
-- image.
abbrev pub num : (ℕ → ℕ) → ℕ → ℕ → ℕ
num byte place zero = 0
num byte place (suc width) = byte place + 256 * num byte (place + 1) width

-- byte k of a number, from the lowest
abbrev pub digit : ℕ → ℕ → ℕ
digit v k = v / 256 ^ k % 256

-- the `len` bytes at an offset
abbrev pub part : List ℕ → ℕ → ℕ → List ℕ
part bytes offset len = take len (drop offset bytes)

-- the lowest `width` bytes of a number, the lowest first
abbrev pub little : ℕ → ℕ → List ℕ
little width v = map (digit v) (range_with_len 0 width)

-- a place is one of the `len` from a start on
abbrev pub is_in : ℕ → ℕ → ℕ → Bool
is_in start len place = nat_le start place && nat_lt place (start + len)
