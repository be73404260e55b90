-- The faults of an image's sections, in table order.
use Rattle.std.specs.Prelude.{ℕ, ◌+◌, ◌&&◌, ◌||◌, nat_lt, List, [], ◌∷◌, ◌++◌, length}
use Rattle.pe_view.specs.declared.fault.Place.TheVariants.{File}
use Rattle.pe_view.specs.Faults.{Test, test}
use Rattle.pe_head.specs.declared.section.SectionHeader.{SectionHeader}
use Rattle.pe_head.specs.declared.headers.Headers.{Headers}
use Rattle.pe_head.specs.Section.{rawlen}
use Rattle.pe_head.specs.Head.{head_of, section_offset}
use Rattle.pe_head.specs.HeaderFaults.{head_tests}
use Rattle.pe_layout.specs.Piece.{end_of}

-- faults 13 to 15 of section i, after a section that ends at `before`, in a file of `size` bytes
abbrev pub section_tests : ℕ → Headers → ℕ → ℕ → ℕ → SectionHeader → List Test
section_tests image h size before i s =
    test 13 image (File (section_offset h i)) (nat_lt 0 (rawlen s) && nat_lt size (s.pointer_to_raw_data + rawlen s))
    ∷ test 14 image (File (section_offset h i)) (nat_lt h.size_of_image (end_of s))
    ∷ test 15 image (File (section_offset h i)) (nat_lt s.virtual_address h.size_of_headers || nat_lt s.virtual_address before)
    ∷ []

-- the same of the sections from number i on
unfoldable pub sections_tests : ℕ → Headers → ℕ → ℕ → ℕ → List SectionHeader → List Test
sections_tests image h size before i [] = []
sections_tests image h size before i (s ∷ ss) = section_tests image h size before i s ++ sections_tests image h size (end_of s) (i + 1) ss

-- faults 13 to 15 of all sections
abbrev pub placing_tests : ℕ → Headers → ℕ → List Test
placing_tests image h size = sections_tests image h size 0 0 h.sections.items

-- faults 1 to 15
abbrev pub layout_tests : ℕ → List ℕ → List Test
layout_tests image file = head_tests image file ++ placing_tests image (head_of file) (length file)
