-- The contents of an object of either form that depend on the form: its section numbers and its auxiliary records.
use Rattle.std.specs.Prelude.{ℕ, ◌+◌, ◌*◌, ◌/◌, ◌%◌, ◌==◌, ◌||◌, Bool, true, false, not, nat_lt, List, [], ◌∷◌, length}
use Rattle.coff_read.specs.Forms.{Form, symbol_len, absolute_number, debug_number}
use Rattle.coff_read.specs.Records.{Symbol}
use Rattle.coff_read.specs.declared.symbol.SymbolSection.{SymbolSection}
use Rattle.coff_read.specs.declared.symbol.SymbolSection.TheVariants as belongs

-- the field SectionNumber of a symbol's record
abbrev pub section_number : Form → SymbolSection → ℕ
section_number big belongs.Undefined = 0
section_number big belongs.Absolute = absolute_number big
section_number big belongs.Debug = debug_number big
section_number big (belongs.Section number) = number

-- how many auxiliary records a symbol has
abbrev pub aux_records : Form → Symbol → ℕ
aux_records big s = length s.aux / symbol_len big

-- how many records the symbols have
abbrev pub records_of : Form → List Symbol → ℕ
records_of big [] = 0
records_of big (s ∷ ss) = 1 + aux_records big s + records_of big ss

-- the greatest number of a section
abbrev pub last_number : Form → ℕ
last_number false = 0xfffd
last_number true = 0xffff_fffd

-- a section number is that of none of `count` sections
abbrev pub is_bad_number : Form → ℕ → SymbolSection → Bool
is_bad_number big count belongs.Undefined = false
is_bad_number big count belongs.Absolute = false
is_bad_number big count belongs.Debug = false
is_bad_number big count (belongs.Section k) = k == 0 || (nat_lt count k || nat_lt (last_number big) k)

-- so many bytes of auxiliary records are not whole, or are more than 255, which a symbol's record counts
abbrev pub is_bad_aux : Form → ℕ → Bool
is_bad_aux big len = not (len % symbol_len big == 0) || nat_lt (255 * symbol_len big) len

-- a symbol does not fit the form
abbrev pub is_bad_symbol : Form → ℕ → Symbol → Bool
is_bad_symbol big count s = is_bad_number big count s.section || is_bad_aux big (length s.aux)
