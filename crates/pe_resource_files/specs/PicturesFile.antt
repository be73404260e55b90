-- The file of some icons or cursors (winuser.h's NEWHEADER and ICONDIRENTRY), each by the front of its entry and its bytes.
use Rattle.std.specs.Prelude.{ℕ, ◌+◌, ◌*◌, ◌^◌, ◌&&◌, nat_le, nat_lt, List, [], ◌∷◌, length, map, sum_by, Option, Some, None, if◌then◌else◌}
use Rattle.pe_numbers.specs.declared.number.Number.{Number}
use Rattle.pe_numbers.specs.declared.number.Number.TheVariants.{U16, U32, U64}
use Rattle.pe_numbers.specs.Numbers.{numbers_bytes}
use Rattle.pe_resource_files.specs.declared.group.GroupKind.{GroupKind}
use Rattle.pe_resource_files.specs.declared.group.GroupKind.TheVariants.{Icons, Cursors}

-- what the file's header has in its second number
abbrev pub file_type : GroupKind → ℕ
file_type Icons = 1
file_type Cursors = 2

-- how many bytes pictures have together
abbrev pub total_len : List (ℕ × List ℕ) → ℕ
total_len pictures = sum_by (λ picture. length picture.1) pictures

-- the numbers of the entries of pictures that begin at an offset of the file
abbrev pub entries_from : ℕ → List (ℕ × List ℕ) → List Number
entries_from at [] = []
entries_from at (picture ∷ pictures) =
    U64 picture.0 ∷ U32 (length picture.1) ∷ U32 at ∷ entries_from (at + length picture.1) pictures

-- where the first picture begins in the file
abbrev pub pictures_start : List (ℕ × List ℕ) → ℕ
pictures_start pictures = 6 + 16 * length pictures

-- what stands before the pictures in their file
abbrev pub directory_of : GroupKind → List (ℕ × List ℕ) → List Number
directory_of kind pictures =
    U16 0 ∷ U16 (file_type kind) ∷ U16 (length pictures) ∷ entries_from (pictures_start pictures) pictures

-- The file of some pictures, unless it would be too large for its numbers, or for `most` bytes of pictures: as many as the image's
-- file has, of which no two pictures share one.
abbrev pub pictures_file : ℕ → GroupKind → List (ℕ × List ℕ) → Option (List ℕ × List (List ℕ))
pictures_file most kind pictures =
    if nat_le (total_len pictures) most && nat_lt (pictures_start pictures + total_len pictures) (2 ^ 32) then
    Some (numbers_bytes (directory_of kind pictures), map (λ picture. picture.1) pictures)
    else None
