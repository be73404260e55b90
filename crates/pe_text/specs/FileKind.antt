-- The kind of a file by its first bytes.
use Rattle.std.specs.Prelude.{ℕ, ◌==◌, ◌&&◌, ◌||◌, Bool, true, false, nat_lt, nat_le, nat_eq, if◌then◌else◌, List, [], ◌∷◌, ◌++◌, codes, length, take, Option, None, Some}
use Rattle.std.specs.List.{list_all, starts_with}
use Rattle.std.specs.Str.{bytes_eq}
use Rattle.pe_view.specs.Number.{num, byte_of, part}
use Rattle.pe_view.specs.Faults.{Test}
use Rattle.pe_text.specs.declared.file_beginning.FileKind.{FileKind}
use Rattle.pe_text.specs.declared.file_beginning.FileKind.TheVariants.{Image, Elf, Archive, ThinArchive, Text, Object, ImportObject, BigObject}

abbrev pub begins_with : List ℕ → List ℕ → Bool
begins_with = starts_with nat_eq

-- the byte is printable ASCII, a tab, a line feed or a carriage return
abbrev pub is_text_byte : ℕ → Bool
is_text_byte byte = (nat_le 0x20 byte && nat_le byte 0x7e) || (byte == 9 || (byte == 10 || byte == 13))

-- it has bytes, and its first 16 are text
abbrev pub is_text : List ℕ → Bool
is_text bytes = nat_lt 0 (length bytes) && list_all is_text_byte (take 16 bytes)

-- the Machine field of an object: I386, AMD64, ARM64, ARM or ARMNT
abbrev pub is_machine : ℕ → Bool
is_machine m = m == 0x14c || (m == 0x8664 || (m == 0xaa64 || (m == 0x1c0 || m == 0x1c4)))

abbrev pub begins_object : List ℕ → Bool
begins_object bytes = nat_le 2 (length bytes) && is_machine (num (byte_of bytes) 0 2)

-- Machine 0, ffff where an object has its number of sections, and the version 0 ("PE Format", Import Header)
abbrev pub begins_import : List ℕ → Bool
begins_import bytes = begins_with bytes (0 ∷ 0 ∷ 255 ∷ 255 ∷ 0 ∷ 0 ∷ [])

-- the class of `/bigobj` objects, {D1BAA1C7-BAEE-4BA9-AF20-FAF66AA4DCB8}
abbrev pub big_class : List ℕ
big_class = 0xc7 ∷ 0xa1 ∷ 0xba ∷ 0xd1 ∷ 0xee ∷ 0xba ∷ 0xa9 ∷ 0x4b ∷ 0xaf ∷ 0x20 ∷ 0xfa ∷ 0xf6 ∷ 0x6a ∷ 0xa4 ∷ 0xdc ∷ 0xb8 ∷ []

-- the same first four bytes, a version of 2 or more, and that class (ANON_OBJECT_HEADER_BIGOBJ)
abbrev pub begins_big_object : List ℕ → Bool
begins_big_object bytes =
    nat_le 28 (length bytes)
    && (num (byte_of bytes) 0 4 == 0xffff0000 && (nat_le 2 (num (byte_of bytes) 4 2) && bytes_eq (part bytes 12 16) big_class))

-- the kind of object that may begin with these bytes
abbrev pub object_kind : List ℕ → Option FileKind
object_kind bytes =
    if begins_object bytes then Some Object
    else (if begins_import bytes then Some ImportObject
    else (if begins_big_object bytes then Some BigObject
    else None))

-- the first of the kinds that may begin with these bytes
abbrev pub kind_of : List ℕ → Option FileKind
kind_of bytes =
    if begins_with bytes (codes "MZ") then Some Image
    else (if begins_with bytes (127 ∷ codes "ELF") then Some Elf
    else (if begins_with bytes (codes "!<arch>" ++ 10 ∷ []) then Some Archive
    else (if begins_with bytes (codes "!<thin>" ++ 10 ∷ []) then Some ThinArchive
    else (if is_text bytes then Some Text
    else object_kind bytes))))

-- the first bytes are those of an object of either form
abbrev pub is_object : Option FileKind → Bool
is_object None = false
is_object (Some Image) = false
is_object (Some Elf) = false
is_object (Some Archive) = false
is_object (Some ThinArchive) = false
is_object (Some Text) = false
is_object (Some Object) = true
is_object (Some ImportObject) = false
is_object (Some BigObject) = true

-- the first bytes are those of a plain object
abbrev pub is_plain_object : Option FileKind → Bool
is_plain_object None = false
is_plain_object (Some Image) = false
is_plain_object (Some Elf) = false
is_plain_object (Some Archive) = false
is_plain_object (Some ThinArchive) = false
is_plain_object (Some Text) = false
is_plain_object (Some Object) = true
is_plain_object (Some ImportObject) = false
is_plain_object (Some BigObject) = false

-- the tests of a file: those of an object if its first bytes are those of one, otherwise those of an image
abbrev pub tests_by_kind : List ℕ → List Test → List Test → List Test
tests_by_kind file object_tests image_tests = if is_object (kind_of file) then object_tests else image_tests

-- the kind in words
abbrev pub kind_words : FileKind → List ℕ
kind_words Image = codes "it is an image"
kind_words Elf = codes "it is an ELF file"
kind_words Archive = codes "it is an archive"
kind_words ThinArchive = codes "it is a thin archive"
kind_words Text = codes "it is a text"
kind_words Object = codes "it is a COFF object"
kind_words ImportObject = codes "it is an import object"
kind_words BigObject = codes "it is a /bigobj object"

-- its name
abbrev pub kind_name : FileKind → List ℕ
kind_name Image = codes "image"
kind_name Elf = codes "ELF file"
kind_name Archive = codes "archive"
kind_name ThinArchive = codes "thin archive"
kind_name Text = codes "text"
kind_name Object = codes "COFF object"
kind_name ImportObject = codes "import object"
kind_name BigObject = codes "/bigobj object"

-- the first bytes are those of an image
abbrev pub is_image : Option FileKind → Bool
is_image None = false
is_image (Some Image) = true
is_image (Some Elf) = false
is_image (Some Archive) = false
is_image (Some ThinArchive) = false
is_image (Some Text) = false
is_image (Some Object) = false
is_image (Some ImportObject) = false
is_image (Some BigObject) = false

-- a file of this kind is tested for a fault of this number; true for a number of which no single file is. By 61 and 62, which are about
-- the header, a big object is refused where only a plain one is read.
abbrev pub is_read : ℕ → Option FileKind → Bool
is_read number kind =
    if nat_le 1 number && nat_le number 38 then is_image kind
    else (if number == 61 || number == 62 then is_plain_object kind
    else (if nat_le 63 number && nat_le number 72 then is_object kind
    else true))

-- what a file refused with a fault of this number is instead, by its first bytes
abbrev pub other_kind : ℕ → List ℕ → Option FileKind
other_kind number first = if is_read number (kind_of first) then None else kind_of first
