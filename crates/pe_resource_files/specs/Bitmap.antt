-- Bitmaps as files: a header of 14 bytes, which their resources leave out, stands before them (wingdi.h: BITMAPFILEHEADER,
-- BITMAPINFOHEADER, BITMAPCOREHEADER).
use Rattle.std.specs.Prelude.{ℕ, ◌+◌, ◌*◌, ◌^◌, ◌==◌, ◌&&◌, nat_le, nat_lt, List, [], ◌∷◌, length, Option, Some, None, option_and_then, if◌then◌else◌}
use Rattle.pe_view.specs.Number.{num, byte_of}
use Rattle.pe_numbers.specs.declared.number.Number.{Number}
use Rattle.pe_numbers.specs.declared.number.Number.TheVariants.{U16, U32}
use Rattle.pe_numbers.specs.Numbers.{numbers_bytes}

abbrev pub number_in : ℕ → List ℕ → ℕ → ℕ
number_in width bytes offset = num (byte_of bytes) offset width

-- how many colours there are for so many bits a pixel: those of more than 8 bits need no table
abbrev pub colours_of : ℕ → ℕ
colours_of bits = if nat_le 1 bits && nat_le bits 8 then 2 ^ bits else 0

-- how many colours the table of a bitmap has: as many as its header says, or all that there are
abbrev pub colour_count : List ℕ → ℕ
colour_count bytes = if number_in 4 bytes 32 == 0 then colours_of (number_in 2 bytes 14) else number_in 4 bytes 32

-- how many bytes of masks come after a header of 40 bytes, by the compression: BI_BITFIELDS has three, BI_ALPHABITFIELDS four
abbrev pub masks_len : List ℕ → ℕ
masks_len bytes =
    if number_in 4 bytes 0 == 40 then
    (if number_in 4 bytes 16 == 3 then 12 else if number_in 4 bytes 16 == 6 then 16 else 0)
    else 0

-- where the pixels begin: after the header, whose first number is its length, the masks, and the table of colours
abbrev pub pixels_start : List ℕ → Option ℕ
pixels_start bytes =
    if nat_le 12 (length bytes) && number_in 4 bytes 0 == 12 then Some (12 + 3 * colours_of (number_in 2 bytes 10))
    else if nat_le 40 (length bytes) && nat_le 40 (number_in 4 bytes 0) then
    Some (number_in 4 bytes 0 + masks_len bytes + 4 * colour_count bytes)
    else None

-- the header of the file of a bitmap whose pixels begin there
abbrev pub bitmap_header : List ℕ → ℕ → List Number
bitmap_header bytes start = U16 0x4d42 ∷ U32 (14 + length bytes) ∷ U32 0 ∷ U32 (14 + start) ∷ []

abbrev pub bitmap_at : List ℕ → ℕ → Option (List ℕ × List (List ℕ))
bitmap_at bytes start =
    if nat_le start (length bytes) && nat_lt (14 + length bytes) (2 ^ 32) then Some (numbers_bytes (bitmap_header bytes start), bytes ∷ []) else None

-- the file of a bitmap, unless its resource has not the header, or ends before the pixels
abbrev pub bitmap_file : List ℕ → Option (List ℕ × List (List ℕ))
bitmap_file bytes = option_and_then (bitmap_at bytes) (pixels_start bytes)
