-- The faults of a file with another base, in the order in which they are tested.
use Rattle.std.specs.Prelude.{ℕ, ◌+◌, ◌&&◌, ◌||◌, Bool, is_none, nat_lt, List, [], ◌∷◌, ◌++◌, map}
use Rattle.std.specs.List.{list_any}
use Rattle.pe_view.specs.declared.fault.Place.TheVariants.{File, Rva}
use Rattle.pe_view.specs.Faults.{Test, test}
use Rattle.pe_head.specs.declared.optional.Magic.{Magic}
use Rattle.pe_head.specs.declared.section.SectionHeader.{SectionHeader}
use Rattle.pe_head.specs.declared.headers.Headers.{Headers}
use Rattle.pe_head.specs.Head.{head_of, section_offset}
use Rattle.pe_head.specs.Section.{rawlen}
use Rattle.pe_layout.specs.Image.{LaidOut, image_of_file}
use Rattle.pe_layout.specs.SectionFaults.{layout_tests}
use Rattle.pe_ranges.specs.Ranges.{meets}
use Rattle.pe_tables.specs.Fixups.{fixups_of}
use Rattle.pe_image.specs.ImageTests.{relocation_tests}
use Rattle.pe_tables.specs.declared.fixups.Fixup.{Fixup}
use Rattle.pe_set.specs.Placement.{Placement, base_tests}
use Rattle.pe_write.specs.Rebase.{raw_section}

-- the image at a base, alone in its address space
abbrev pub placed : Magic → LaidOut → ℕ → Placement
placed magic i base = record { base = base; size = i.size; magic = magic; image_base = i.image_base; is_stripped = i.is_stripped }

-- faults 44 to 46; without another image 47 does not hold
abbrev pub own_base_tests : Magic → LaidOut → ℕ → List Test
own_base_tests magic i base = base_tests [] 0 (placed magic i base)

-- fault 51 of a fixup
abbrev pub field_test : Headers → Fixup → Test
field_test h f = test 51 0 (Rva f.field) (is_none (raw_section h f))

unfoldable pub fields_tests : Headers → List Fixup → List Test
fields_tests h fixups = map (field_test h) fixups

-- the raw data of two sections overlap in the file
abbrev pub raw_meets : SectionHeader → SectionHeader → Bool
raw_meets s t = nat_lt 0 (rawlen t) && meets s.pointer_to_raw_data (rawlen s) t.pointer_to_raw_data (rawlen t)

-- fault 52 of section k, after the sections `before`
abbrev pub range_test : Headers → List SectionHeader → ℕ → SectionHeader → Test
range_test h before k s = test 52 0 (File (section_offset h k)) (nat_lt 0 (rawlen s) && (nat_lt s.pointer_to_raw_data h.size_of_headers || list_any (raw_meets s) before))

unfoldable pub ranges_tests : Headers → List SectionHeader → ℕ → List SectionHeader → List Test
ranges_tests h before k [] = []
ranges_tests h before k (s ∷ ss) = range_test h before k s ∷ ranges_tests h (before ++ s ∷ []) (k + 1) ss

-- faults 51 and 52: the places of fields and raw data in the file
abbrev pub data_tests : Headers → List Fixup → List Test
data_tests h fixups = fields_tests h fixups ++ ranges_tests h [] 0 h.sections.items

-- faults 1 to 15, 24 to 38, 44 to 46, 51 and 52
unfoldable pub rebase_tests : List ℕ → ℕ → List Test
rebase_tests file base =
    let h = head_of file in
    let i = image_of_file 0 file in
    layout_tests 0 file ++ (relocation_tests i ++ (own_base_tests h.magic i base ++ data_tests h (fixups_of i)))
