-- Groups of icons and of cursors, and what the files of their pictures have of them (winuser.h: a group has a header of 6 bytes and
-- entries of 14; a file has a header of 6 bytes and entries of 16, before the pictures).
use Rattle.std.specs.Prelude.{ℕ, ◌+◌, ◌*◌, ◌^◌, ◌%◌, ◌/◌, ◌==◌, ◌&&◌, Bool, nat_le, List, length, drop, Option, Some, None, if◌then◌else◌}
use Rattle.pe_view.specs.Number.{num, byte_of}
use Rattle.pe_resource_files.specs.declared.group.GroupKind.{GroupKind}
use Rattle.pe_resource_files.specs.declared.group.GroupKind.TheVariants.{Icons, Cursors}
use Rattle.pe_resource_files.specs.declared.group.Picture.{Picture}

-- how many pictures a group has, if its data hold the entries of all
abbrev pub group_count : List ℕ → Option ℕ
group_count group =
    if nat_le 6 (length group) && nat_le (6 + 14 * num (byte_of group) 4 2) (length group) then Some (num (byte_of group) 4 2) else None

-- the number in `width` bytes at an offset of entry `k`
abbrev pub entry_number : ℕ → List ℕ → ℕ → ℕ → ℕ
entry_number width group k offset = num (byte_of group) (6 + 14 * k + offset) width

-- the first 8 bytes of a file's entry, as a number: those of an icon stand in the group
abbrev pub icon_front : List ℕ → ℕ → ℕ
icon_front group k = entry_number 8 group k 0

-- behind the hot spot a bitmap begins, whose header has 40 bytes (wingdi.h, BITMAPINFOHEADER)
abbrev pub is_bitmap : List ℕ → Bool
is_bitmap bytes = nat_le 16 (length bytes) && num (byte_of bytes) 4 4 == 40

-- the height of a cursor, twice: a bitmap says that of its picture and its mask together, and most groups say it so
abbrev pub double_height : List ℕ → ℕ → List ℕ → ℕ
double_height group k bytes = if is_bitmap bytes then num (byte_of bytes) 12 4 else entry_number 2 group k 2

-- those of a cursor are its width, its height, and the hot spot that its data begin with
abbrev pub cursor_front : List ℕ → ℕ → List ℕ → ℕ
cursor_front group k bytes =
    entry_number 2 group k 0 % 2 ^ 8 + 2 ^ 8 * (double_height group k bytes / 2 % 2 ^ 8) + 2 ^ 32 * num (byte_of bytes) 0 4

-- the front of entry `k`'s picture, and its bytes, from the data of its resource
abbrev pub picture_of : GroupKind → List ℕ → ℕ → List ℕ → Option (ℕ × List ℕ)
picture_of Icons group k bytes = Some (icon_front group k, bytes)
picture_of Cursors group k bytes = if nat_le 4 (length bytes) then Some (cursor_front group k bytes, drop 4 bytes) else None

-- the code's picture
abbrev pub pair_of : Picture → ℕ × List ℕ
pair_of picture = (picture.front, picture.bytes.now)
