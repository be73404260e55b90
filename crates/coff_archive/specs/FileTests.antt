-- What refuses a file as a whole.
use Rattle.std.specs.Prelude.{ℕ, ◌^◌, nat_lt, length, Bool, false, List, [], ◌∷◌, is_none}
use Rattle.std.specs.Option.{unwrap_or}
use Rattle.pe_view.specs.declared.fault.Place.TheVariants.{File}
use Rattle.pe_view.specs.Faults.{Test, test}
use Rattle.coff_archive.specs.Members.{at_offset, thinness}

-- 1: it has over 2^32 bytes; 300: it begins with neither signature
abbrev pub file_tests : List ℕ → List Test
file_tests file = test 1 0 (File (2 ^ 32)) (nat_lt (2 ^ 32) (length file)) ∷ at_offset 300 0 (is_none (thinness file)) ∷ []

-- whether it is a thin archive, if it is one
abbrev pub is_thin_file : List ℕ → Bool
is_thin_file file = unwrap_or (thinness file) false
