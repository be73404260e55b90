-- Numbers in the bytes of an image, the lowest byte first. No contract of a public function uses this module.
use Rattle.std.specs.Prelude.{ℕ, List}
use Rattle.pe_view.specs.Number.{num, byte_of}
pub use Rattle.pe_view.specs.Number.{digit}
unfoldable pub use Rattle.pe_tables.specs.Relocated.{shift}

-- the number in the bytes from a place on
abbrev pub number_in : List ℕ → ℕ → ℕ → ℕ
number_in bytes place width = num (byte_of bytes) place width
