-- When a call on a file may run out of memory: if the file passes the tests that come before the first allocation.
use Rattle.std.specs.Prelude.{◌≡◌, ℕ, List, None}
use Rattle.pe_view.specs.Faults.{first_standing}
use Rattle.pe_layout.specs.Image.{LaidOut, image_of_file}
use Rattle.pe_layout.specs.SectionFaults.{layout_tests}

-- the file has none of faults 1 to 15
abbrev pub IsLaidOut : List ℕ → Type 0
IsLaidOut file = first_standing (layout_tests 0 file) ≡ None

-- the same, and the file's image has the property
abbrev pub IsLaidOutAnd : (LaidOut → Type 0) → List ℕ → Type 0
IsLaidOutAnd P file = IsLaidOut file × P (image_of_file 0 file)
