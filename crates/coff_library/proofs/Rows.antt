-- Rows of the definitions: a small object, whose public symbols are those that llvm-ar names; short import objects, as llvm-ar
-- names theirs; and a small archive worked out by hand from the format, which llvm-ar, llvm-nm, ar and nm list as it is meant.
use Rattle.std.proofs.Common.{◌≡◌, ◌++◌, ◌-◌, ◌^◌, codes, refl, ℕ, true, false, List, [], ◌∷◌, Some, None}
use Rattle.std.specs.Fmt.{digits}
use Rattle.pe_view.specs.declared.fault.Place.TheVariants.{Item}
use Rattle.pe_view.specs.Faults.{first_standing}
use Rattle.pe_numbers.specs.Numbers.{number_bytes}
use Rattle.coff_read.specs.Field.{field}
use Rattle.coff_read.specs.FormFaults.{record_tests, object_tests}
use Rattle.coff_archive.specs.Imports as imports
use Rattle.coff_library.specs.Members.{Member}
use Rattle.coff_library.specs.PublicNames.{public_names}
use Rattle.coff_library.specs.Symbols.{symbols_of}
use Rattle.coff_library.specs.WriteFaults.{is_bad_name, name_tests, size_tests}
use Rattle.coff_library.specs.Written.{padded, header_fields, header, is_long, room, members_start, member_offsets, first_table, second_table, archive_with}

abbrev code_import : List ℕ
code_import = 0 ∷ 0 ∷ 255 ∷ 255 ∷ 0 ∷ 0 ∷ 76 ∷ 1 ∷ 0 ∷ 0 ∷ 0 ∷ 0 ∷ 16 ∷ 0 ∷ 0 ∷ 0 ∷ 0 ∷ 0 ∷ 8 ∷ 0 ∷ 95 ∷ 112 ∷ 108 ∷ 97 ∷ 105 ∷ 110 ∷ 0 ∷ 115 ∷ 111 ∷ 109 ∷ 101 ∷ 46 ∷ 100 ∷ 108 ∷ 108 ∷ 0 ∷ []

abbrev data_import : List ℕ
data_import = 0 ∷ 0 ∷ 255 ∷ 255 ∷ 0 ∷ 0 ∷ 76 ∷ 1 ∷ 0 ∷ 0 ∷ 0 ∷ 0 ∷ 16 ∷ 0 ∷ 0 ∷ 0 ∷ 0 ∷ 0 ∷ 9 ∷ 0 ∷ 95 ∷ 112 ∷ 108 ∷ 97 ∷ 105 ∷ 110 ∷ 0 ∷ 115 ∷ 111 ∷ 109 ∷ 101 ∷ 46 ∷ 100 ∷ 108 ∷ 108 ∷ 0 ∷ []

abbrev constant_import : List ℕ
constant_import = 0 ∷ 0 ∷ 255 ∷ 255 ∷ 0 ∷ 0 ∷ 76 ∷ 1 ∷ 0 ∷ 0 ∷ 0 ∷ 0 ∷ 16 ∷ 0 ∷ 0 ∷ 0 ∷ 0 ∷ 0 ∷ 10 ∷ 0 ∷ 95 ∷ 112 ∷ 108 ∷ 97 ∷ 105 ∷ 110 ∷ 0 ∷ 115 ∷ 111 ∷ 109 ∷ 101 ∷ 46 ∷ 100 ∷ 108 ∷ 108 ∷ 0 ∷ []

abbrev small_object : List ℕ
small_object = 100 ∷ 134 ∷ 1 ∷ 0 ∷ 0 ∷ 0 ∷ 0 ∷ 0 ∷ 61 ∷ 0 ∷ 0 ∷ 0 ∷ 10 ∷ 0 ∷ 0 ∷ 0 ∷ 0 ∷ 0 ∷ 0 ∷ 0 ∷ 46 ∷ 116 ∷ 101 ∷ 120 ∷ 116 ∷ 0 ∷ 0 ∷ 0 ∷ 0 ∷ 0 ∷ 0 ∷ 0 ∷ 0 ∷ 0 ∷ 0 ∷ 0 ∷ 1 ∷ 0 ∷ 0 ∷ 0 ∷ 60 ∷ 0 ∷ 0 ∷ 0 ∷ 0 ∷ 0 ∷ 0 ∷ 0 ∷ 0 ∷ 0 ∷ 0 ∷ 0 ∷ 0 ∷ 0 ∷ 0 ∷ 0 ∷ 32 ∷ 0 ∷ 0 ∷ 96 ∷ 195 ∷ 100 ∷ 0 ∷ 0 ∷ 0 ∷ 0 ∷ 0 ∷ 0 ∷ 0 ∷ 0 ∷ 0 ∷ 0 ∷ 0 ∷ 1 ∷ 0 ∷ 0 ∷ 0 ∷ 2 ∷ 0 ∷ 117 ∷ 0 ∷ 0 ∷ 0 ∷ 0 ∷ 0 ∷ 0 ∷ 0 ∷ 0 ∷ 0 ∷ 0 ∷ 0 ∷ 0 ∷ 0 ∷ 0 ∷ 0 ∷ 2 ∷ 0 ∷ 99 ∷ 0 ∷ 0 ∷ 0 ∷ 0 ∷ 0 ∷ 0 ∷ 0 ∷ 4 ∷ 0 ∷ 0 ∷ 0 ∷ 0 ∷ 0 ∷ 0 ∷ 0 ∷ 2 ∷ 0 ∷ 115 ∷ 0 ∷ 0 ∷ 0 ∷ 0 ∷ 0 ∷ 0 ∷ 0 ∷ 0 ∷ 0 ∷ 0 ∷ 0 ∷ 1 ∷ 0 ∷ 0 ∷ 0 ∷ 3 ∷ 0 ∷ 97 ∷ 0 ∷ 0 ∷ 0 ∷ 0 ∷ 0 ∷ 0 ∷ 0 ∷ 7 ∷ 0 ∷ 0 ∷ 0 ∷ 255 ∷ 255 ∷ 0 ∷ 0 ∷ 2 ∷ 0 ∷ 119 ∷ 0 ∷ 0 ∷ 0 ∷ 0 ∷ 0 ∷ 0 ∷ 0 ∷ 0 ∷ 0 ∷ 0 ∷ 0 ∷ 0 ∷ 0 ∷ 0 ∷ 0 ∷ 105 ∷ 1 ∷ 0 ∷ 0 ∷ 0 ∷ 0 ∷ 3 ∷ 0 ∷ 0 ∷ 0 ∷ 0 ∷ 0 ∷ 0 ∷ 0 ∷ 0 ∷ 0 ∷ 0 ∷ 0 ∷ 0 ∷ 0 ∷ 120 ∷ 0 ∷ 0 ∷ 0 ∷ 0 ∷ 0 ∷ 0 ∷ 0 ∷ 0 ∷ 0 ∷ 0 ∷ 0 ∷ 0 ∷ 0 ∷ 0 ∷ 0 ∷ 105 ∷ 1 ∷ 0 ∷ 0 ∷ 0 ∷ 0 ∷ 2 ∷ 0 ∷ 0 ∷ 0 ∷ 0 ∷ 0 ∷ 0 ∷ 0 ∷ 0 ∷ 0 ∷ 0 ∷ 0 ∷ 0 ∷ 0 ∷ 108 ∷ 0 ∷ 0 ∷ 0 ∷ 0 ∷ 0 ∷ 0 ∷ 0 ∷ 0 ∷ 0 ∷ 0 ∷ 0 ∷ 1 ∷ 0 ∷ 0 ∷ 0 ∷ 6 ∷ 0 ∷ 4 ∷ 0 ∷ 0 ∷ 0 ∷ []

abbrev small_archive : List ℕ
small_archive = 33 ∷ 60 ∷ 97 ∷ 114 ∷ 99 ∷ 104 ∷ 62 ∷ 10 ∷ 47 ∷ 32 ∷ 32 ∷ 32 ∷ 32 ∷ 32 ∷ 32 ∷ 32 ∷ 32 ∷ 32 ∷ 32 ∷ 32 ∷ 32 ∷ 32 ∷ 32 ∷ 32 ∷ 48 ∷ 32 ∷ 32 ∷ 32 ∷ 32 ∷ 32 ∷ 32 ∷ 32 ∷ 32 ∷ 32 ∷ 32 ∷ 32 ∷ 48 ∷ 32 ∷ 32 ∷ 32 ∷ 32 ∷ 32 ∷ 48 ∷ 32 ∷ 32 ∷ 32 ∷ 32 ∷ 32 ∷ 54 ∷ 52 ∷ 52 ∷ 32 ∷ 32 ∷ 32 ∷ 32 ∷ 32 ∷ 51 ∷ 50 ∷ 32 ∷ 32 ∷ 32 ∷ 32 ∷ 32 ∷ 32 ∷ 32 ∷ 32 ∷ 96 ∷ 10 ∷ 0 ∷ 0 ∷ 0 ∷ 2 ∷ 0 ∷ 0 ∷ 1 ∷ 30 ∷ 0 ∷ 0 ∷ 1 ∷ 30 ∷ 95 ∷ 95 ∷ 105 ∷ 109 ∷ 112 ∷ 95 ∷ 95 ∷ 112 ∷ 108 ∷ 97 ∷ 105 ∷ 110 ∷ 0 ∷ 95 ∷ 112 ∷ 108 ∷ 97 ∷ 105 ∷ 110 ∷ 0 ∷ 47 ∷ 32 ∷ 32 ∷ 32 ∷ 32 ∷ 32 ∷ 32 ∷ 32 ∷ 32 ∷ 32 ∷ 32 ∷ 32 ∷ 32 ∷ 32 ∷ 32 ∷ 32 ∷ 48 ∷ 32 ∷ 32 ∷ 32 ∷ 32 ∷ 32 ∷ 32 ∷ 32 ∷ 32 ∷ 32 ∷ 32 ∷ 32 ∷ 48 ∷ 32 ∷ 32 ∷ 32 ∷ 32 ∷ 32 ∷ 48 ∷ 32 ∷ 32 ∷ 32 ∷ 32 ∷ 32 ∷ 54 ∷ 52 ∷ 52 ∷ 32 ∷ 32 ∷ 32 ∷ 32 ∷ 32 ∷ 52 ∷ 52 ∷ 32 ∷ 32 ∷ 32 ∷ 32 ∷ 32 ∷ 32 ∷ 32 ∷ 32 ∷ 96 ∷ 10 ∷ 3 ∷ 0 ∷ 0 ∷ 0 ∷ 30 ∷ 1 ∷ 0 ∷ 0 ∷ 126 ∷ 1 ∷ 0 ∷ 0 ∷ 190 ∷ 1 ∷ 0 ∷ 0 ∷ 2 ∷ 0 ∷ 0 ∷ 0 ∷ 1 ∷ 0 ∷ 1 ∷ 0 ∷ 95 ∷ 95 ∷ 105 ∷ 109 ∷ 112 ∷ 95 ∷ 95 ∷ 112 ∷ 108 ∷ 97 ∷ 105 ∷ 110 ∷ 0 ∷ 95 ∷ 112 ∷ 108 ∷ 97 ∷ 105 ∷ 110 ∷ 0 ∷ 47 ∷ 47 ∷ 32 ∷ 32 ∷ 32 ∷ 32 ∷ 32 ∷ 32 ∷ 32 ∷ 32 ∷ 32 ∷ 32 ∷ 32 ∷ 32 ∷ 32 ∷ 32 ∷ 48 ∷ 32 ∷ 32 ∷ 32 ∷ 32 ∷ 32 ∷ 32 ∷ 32 ∷ 32 ∷ 32 ∷ 32 ∷ 32 ∷ 48 ∷ 32 ∷ 32 ∷ 32 ∷ 32 ∷ 32 ∷ 48 ∷ 32 ∷ 32 ∷ 32 ∷ 32 ∷ 32 ∷ 54 ∷ 52 ∷ 52 ∷ 32 ∷ 32 ∷ 32 ∷ 32 ∷ 32 ∷ 50 ∷ 50 ∷ 32 ∷ 32 ∷ 32 ∷ 32 ∷ 32 ∷ 32 ∷ 32 ∷ 32 ∷ 96 ∷ 10 ∷ 110 ∷ 111 ∷ 116 ∷ 101 ∷ 115 ∷ 47 ∷ 111 ∷ 102 ∷ 32 ∷ 116 ∷ 104 ∷ 101 ∷ 32 ∷ 108 ∷ 97 ∷ 115 ∷ 116 ∷ 46 ∷ 116 ∷ 120 ∷ 116 ∷ 0 ∷ 115 ∷ 111 ∷ 109 ∷ 101 ∷ 46 ∷ 100 ∷ 108 ∷ 108 ∷ 47 ∷ 32 ∷ 32 ∷ 32 ∷ 32 ∷ 32 ∷ 32 ∷ 32 ∷ 48 ∷ 32 ∷ 32 ∷ 32 ∷ 32 ∷ 32 ∷ 32 ∷ 32 ∷ 32 ∷ 32 ∷ 32 ∷ 32 ∷ 48 ∷ 32 ∷ 32 ∷ 32 ∷ 32 ∷ 32 ∷ 48 ∷ 32 ∷ 32 ∷ 32 ∷ 32 ∷ 32 ∷ 54 ∷ 52 ∷ 52 ∷ 32 ∷ 32 ∷ 32 ∷ 32 ∷ 32 ∷ 51 ∷ 54 ∷ 32 ∷ 32 ∷ 32 ∷ 32 ∷ 32 ∷ 32 ∷ 32 ∷ 32 ∷ 96 ∷ 10 ∷ 0 ∷ 0 ∷ 255 ∷ 255 ∷ 0 ∷ 0 ∷ 76 ∷ 1 ∷ 0 ∷ 0 ∷ 0 ∷ 0 ∷ 16 ∷ 0 ∷ 0 ∷ 0 ∷ 0 ∷ 0 ∷ 8 ∷ 0 ∷ 95 ∷ 112 ∷ 108 ∷ 97 ∷ 105 ∷ 110 ∷ 0 ∷ 115 ∷ 111 ∷ 109 ∷ 101 ∷ 46 ∷ 100 ∷ 108 ∷ 108 ∷ 0 ∷ 47 ∷ 48 ∷ 32 ∷ 32 ∷ 32 ∷ 32 ∷ 32 ∷ 32 ∷ 32 ∷ 32 ∷ 32 ∷ 32 ∷ 32 ∷ 32 ∷ 32 ∷ 32 ∷ 48 ∷ 32 ∷ 32 ∷ 32 ∷ 32 ∷ 32 ∷ 32 ∷ 32 ∷ 32 ∷ 32 ∷ 32 ∷ 32 ∷ 48 ∷ 32 ∷ 32 ∷ 32 ∷ 32 ∷ 32 ∷ 48 ∷ 32 ∷ 32 ∷ 32 ∷ 32 ∷ 32 ∷ 54 ∷ 52 ∷ 52 ∷ 32 ∷ 32 ∷ 32 ∷ 32 ∷ 32 ∷ 51 ∷ 32 ∷ 32 ∷ 32 ∷ 32 ∷ 32 ∷ 32 ∷ 32 ∷ 32 ∷ 32 ∷ 96 ∷ 10 ∷ 104 ∷ 105 ∷ 10 ∷ 10 ∷ 98 ∷ 46 ∷ 116 ∷ 120 ∷ 116 ∷ 47 ∷ 32 ∷ 32 ∷ 32 ∷ 32 ∷ 32 ∷ 32 ∷ 32 ∷ 32 ∷ 32 ∷ 32 ∷ 48 ∷ 32 ∷ 32 ∷ 32 ∷ 32 ∷ 32 ∷ 32 ∷ 32 ∷ 32 ∷ 32 ∷ 32 ∷ 32 ∷ 48 ∷ 32 ∷ 32 ∷ 32 ∷ 32 ∷ 32 ∷ 48 ∷ 32 ∷ 32 ∷ 32 ∷ 32 ∷ 32 ∷ 54 ∷ 52 ∷ 52 ∷ 32 ∷ 32 ∷ 32 ∷ 32 ∷ 32 ∷ 48 ∷ 32 ∷ 32 ∷ 32 ∷ 32 ∷ 32 ∷ 32 ∷ 32 ∷ 32 ∷ 32 ∷ 96 ∷ 10 ∷ []

abbrev small_members : List Member
small_members =
    record { name = codes "some.dll"; bytes = code_import } ∷ record { name = codes "notes/of the last.txt"; bytes = codes "hi\n" }
    ∷ record { name = codes "b.txt"; bytes = [] } ∷ []

-- a definition, a common symbol, an absolute one and an alias; no reference, no static symbol, no weak external of another kind,
-- and no label
row_object : public_names small_object ≡ codes "d" ∷ codes "c" ∷ codes "a" ∷ codes "w" ∷ []
unfolding public_names object_tests record_tests field imports.field
row_object = refl

-- code, data and a constant
row_code : public_names code_import ≡ codes "__imp__plain" ∷ codes "_plain" ∷ []
unfolding public_names imports.field
row_code = refl

row_data : public_names data_import ≡ codes "__imp__plain" ∷ []
unfolding public_names imports.field
row_data = refl

row_constant : public_names constant_import ≡ codes "__imp__plain" ∷ codes "_plain" ∷ []
unfolding public_names imports.field
row_constant = refl

-- neither an object nor a short import object
row_text : public_names (codes "hello") ≡ []
unfolding public_names object_tests record_tests field imports.field
row_text = refl

-- the whole of an archive: a member of an odd size, a long name with `/` in it, and a member of no bytes
row_archive : archive_with small_members (symbols_of small_members) ≡ small_archive
unfolding archive_with header header_fields padded first_table second_table members_start member_offsets public_names object_tests record_tests number_bytes digits field imports.field
row_archive = refl

-- an empty archive
row_empty : archive_with [] [] ≡ codes "!<arch>\n"
    ++ (codes "/               0           0     0     644     4         `\n" ++ (0 ∷ 0 ∷ 0 ∷ 0 ∷ [])
    ++ codes "/               0           0     0     644     8         `\n" ++ (0 ∷ 0 ∷ 0 ∷ 0 ∷ 0 ∷ 0 ∷ 0 ∷ 0 ∷ []))
unfolding archive_with header header_fields padded first_table second_table members_start member_offsets number_bytes digits
row_empty = refl

-- fifteen bytes have room for their `/`, and sixteen have not
row_fifteen : is_long (codes "fifteen_bytes.o") ≡ false
row_fifteen = refl

row_sixteen : is_long (codes "sixteen_bytes_.o") ≡ true
row_sixteen = refl

-- names that would be read back as others, and one that is not
row_no_name : is_bad_name [] ≡ true
row_no_name = refl

row_zero : is_bad_name (97 ∷ 0 ∷ 98 ∷ []) ≡ true
row_zero = refl

row_line_end : is_bad_name (codes "a\nb") ≡ true
row_line_end = refl

row_folder : is_bad_name (codes "a/") ≡ true
row_folder = refl

row_path : is_bad_name (codes "/a/b c.o") ≡ false
row_path = refl

-- the first of two bad names
row_first_bad : first_standing (name_tests 0 (record { name = codes "a"; bytes = [] } ∷ record { name = []; bytes = [] } ∷ record { name = []; bytes = [] } ∷ []))
    ≡ Some (record { number = 92; image = 0; place = Item 1 })
row_first_bad = refl

-- a member that ends at 2^32 - 1, and one that ends at 2^32
row_last_byte : first_standing (size_tests 0 (2 ^ 32 - 64) (record { name = codes "a"; bytes = 1 ∷ 2 ∷ 3 ∷ [] } ∷ [])) ≡ None
row_last_byte = refl

row_one_more : first_standing (size_tests 7 (2 ^ 32 - 64) (record { name = codes "a"; bytes = 1 ∷ 2 ∷ 3 ∷ 4 ∷ [] } ∷ []))
    ≡ Some (record { number = 93; image = 0; place = Item 7 })
row_one_more = refl

-- an odd size takes one byte more
row_room : room 3 ≡ 64
row_room = refl
