-- Facts about an image without faults 1 to 15.
use Rattle.std.proofs.Common.{◌≡◌, ℕ, ◌^◌, ◌≤◌, List, length, None}
use Rattle.pe_view.specs.Faults.{first_standing}
use Rattle.pe_view.specs.FirstStanding.{none-append}
use Rattle.pe_head.specs.Accepted as head
use Rattle.pe_head.specs.Head.{head_of}
use Rattle.pe_head.specs.HeaderFaults.{head_tests}
use Rattle.pe_layout.specs.SectionFaults.{placing_tests, layout_tests}
use Rattle.pe_layout.proofs.SectionPlaces.{AllPlaced, all_placed}

parts : (image : ℕ) (file : List ℕ) → first_standing (layout_tests image file) ≡ None → (first_standing (head_tests image file) ≡ None) × (first_standing (placing_tests image (head_of file) (length file)) ≡ None)
parts image file none = none-append (head_tests image file) (placing_tests image (head_of file) (length file)) none

pub image_small : (image : ℕ) (file : List ℕ) → first_standing (layout_tests image file) ≡ None → (head_of file).size_of_image ≤ 2 ^ 31
image_small image file none = head.image_small image file (parts image file none).0

pub sections_placed : (image : ℕ) (file : List ℕ) → first_standing (layout_tests image file) ≡ None → AllPlaced (head_of file) (length file) 0 (head_of file).sections.items
sections_placed image file none = all_placed image (head_of file) (length file) 0 0 (head_of file).sections.items (parts image file none).1
