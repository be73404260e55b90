-- Numbers in sequence, each with its lowest byte first.
use Rattle.std.specs.Prelude.{ℕ, zero, suc, ◌+◌, ◌-◌, ◌<◌, ◌^◌, nat_lt, List, [], ◌∷◌, Option, Some, None, if◌then◌else◌}
use Rattle.std.specs.List.{flat_map}
use Rattle.pe_view.specs.Number.{little}
use Rattle.pe_numbers.specs.declared.number.Number.{Number}
use Rattle.pe_numbers.specs.declared.number.Number.TheVariants.{U8, U16, U32, U64}

-- how many bytes a number takes
abbrev pub width_of : Number → ℕ
width_of (U8 value) = 1
width_of (U16 value) = 2
width_of (U32 value) = 4
width_of (U64 value) = 8

abbrev pub value_of : Number → ℕ
value_of (U8 value) = value
value_of (U16 value) = value
value_of (U32 value) = value
value_of (U64 value) = value

-- the number fits into its bytes, as every number in memory does
abbrev pub NumberFits : Number → Type 0
NumberFits n = value_of n < 256 ^ width_of n

unfoldable pub number_bytes : Number → List ℕ
number_bytes n = little (width_of n) (value_of n)

abbrev pub numbers_bytes : List Number → List ℕ
numbers_bytes ns = flat_map number_bytes ns

abbrev pub numbers_size : List Number → ℕ
numbers_size [] = 0
numbers_size (n ∷ ns) = width_of n + numbers_size ns

-- the number whose bytes begin at an offset of the sequence
abbrev pub beginning_at : List Number → ℕ → Option Number
beginning_at [] offset = None
beginning_at (n ∷ ns) zero = Some n
beginning_at (n ∷ ns) (suc offset) = if nat_lt (suc offset) (width_of n) then None else beginning_at ns (suc offset - width_of n)
