-- Parts of an object that do not fit the format: their values don't fit the fields, or would be read back differently.
use Rattle.std.specs.Prelude.{ℕ, ◌%◌, ◌==◌, ◌||◌, Bool, false, not, nat_lt, nat_le, length, bit_and}
use Rattle.std.specs.List.{list_any}
use Rattle.coff_read.specs.Records.{Raw, Bytes, Absent, Section, Symbol}
use Rattle.coff_read.specs.declared.relocation.Relocation.{Relocation}
use Rattle.coff_read.specs.declared.symbol.SymbolSection.{SymbolSection}
use Rattle.coff_read.specs.declared.symbol.SymbolSection.TheVariants as belongs

-- bytes that can't be stored as they are
abbrev pub is_bad_raw : Raw → ℕ → Bool
is_bad_raw (Bytes bytes) flags = length bytes == 0 || not (bit_and flags 0x80 == 0)
is_bad_raw (Absent size) flags = false

abbrev pub is_bad_section : ℕ → Section → Bool
is_bad_section records s = is_bad_raw s.raw s.flags || list_any (λ (r : Relocation). nat_le records r.symbol) s.relocations

abbrev pub is_bad_number : ℕ → SymbolSection → Bool
is_bad_number count belongs.Undefined = false
is_bad_number count belongs.Absolute = false
is_bad_number count belongs.Debug = false
is_bad_number count (belongs.Section k) = k == 0 || (nat_lt count k || nat_lt 0xfffd k)

abbrev pub is_bad_symbol : ℕ → Symbol → Bool
is_bad_symbol count s = is_bad_number count s.section || (not (length s.aux % 18 == 0) || nat_lt 4590 (length s.aux))
