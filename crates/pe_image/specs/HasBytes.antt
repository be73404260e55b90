-- The file of an image is not empty if it has none of faults 1 to 15, for proofs of the crates that use this one.
use Rattle.std.proofs.Common.{◌≡◌, ℕ, ◌<◌, ◌≤◌, List, length, None, refl, arith}
use Rattle.std.proofs.lemmas.Bool.{ltb-false}
use Rattle.pe_view.specs.Faults.{first_standing}
use Rattle.pe_view.specs.FirstStanding.{none-append, none_stands}
use Rattle.pe_head.specs.Head.{head_of}
use Rattle.pe_head.specs.HeaderFaults.{head_tests}
use Rattle.pe_layout.specs.Image.{image_of_file}
use Rattle.pe_layout.specs.SectionFaults.{layout_tests, placing_tests}
use Rattle.pe_image.specs.ImageTests.{image_tests, table_tests}

-- a file without faults 1 to 15
pub has_bytes : (number : ℕ) (file : List ℕ) → first_standing (layout_tests number file) ≡ None → 0 < length file
unfolding head_tests
has_bytes number file none =
    let head = (none-append (head_tests number file) (placing_tests number (head_of file) (length file)) none).0 in
    let enough : 64 ≤ length file = ltb-false _ _ (none_stands (head_tests number file) 1 _ head refl) in
    omega (arith, enough)

-- a file without a fault
pub image_has_bytes : (number : ℕ) (file : List ℕ) → first_standing (image_tests number file) ≡ None → 0 < length file
unfolding image_tests
image_has_bytes number file none =
    has_bytes number file (none-append (layout_tests number file) (table_tests (image_of_file number file)) none).0
