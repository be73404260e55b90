-- Examples of rows of a page.
use Rattle.std.proofs.Common.{◌≡◌, [], ◌∷◌, None, Some, refl}
use lib.Utf8.{encode}
use Rattle.std.specs.Fmt.{digits}
use Rattle.std.specs.Prelude.{codes}
use Rattle.std.specs.Str.{chars, is_utf8}
use Rattle.pe_text.specs.Text.{hex, width_from}
use Rattle.pe_tables.specs.declared.fixups.FixupKind.TheVariants.{Bits64}
use Rattle.pe_page.specs.Name.{whole_text, whole_columns, name_text, section_text, section_columns}
use Rattle.pe_show.specs.Places.{field_offset}
use Rattle.pe_show.specs.Rows.{fields_row, relocation_row, symbol_row}

-- fields at 0x3010 and 0x3018
fields : fields_row 6 (record { entry = 0; field = 0x3010; kind = Bits64 }) (record { entry = 0; field = 0x3010; kind = Bits64 } ∷ record { entry = 0; field = 0x3018; kind = Bits64 } ∷ []) ≡ codes "  0x003000  DIR64    010 018\n"
unfolding fields_row hex width_from
fields = refl

-- a relocation whose symbol has a name and whose field is in the file, and one without both
named_relocation : relocation_row 0x1f (Some 0x8f) (Some (codes "REL32")) 4 12 (Some (codes "_puts")) ≡ codes "    0x00001f  file 0x00008f  REL32  #12 _puts\n"
unfolding relocation_row hex width_from name_text whole_text chars is_utf8 encode digits
named_relocation = refl

other_relocation : relocation_row 0x1000000 None None 0x2a 3 None ≡ codes "    0x1000000  0x002a  #3\n"
unfolding relocation_row hex width_from digits
other_relocation = refl

-- where the field of a relocation is in the file: the raw data of 0x20 bytes is at 0x100, and addresses count from 0x10
last_field : field_offset 0x100 0x10 0x20 0x2f ≡ Some 0x11f
last_field = refl

after_raw_data : field_offset 0x100 0x10 0x20 0x30 ≡ None
after_raw_data = refl

before_section : field_offset 0x100 0x10 0x20 0xf ≡ None
before_section = refl

-- a function in section 3 of an object with ten or more, and a symbol of a class without a name outside sections
function : symbol_row 7 4 0x40 (Some 3) 2 (codes ".text") (Some (codes "EXTERNAL")) 2 0x20 (codes "main") ≡ codes "   7  0x00000040   3 .text         EXTERNAL       function  main\n"
unfolding symbol_row hex name_text whole_text section_text section_columns whole_columns chars is_utf8 encode digits
function = refl

other_class : symbol_row 12 4 0 None 2 (codes "ABSOLUTE") None 130 0 (codes "x") ≡ codes "  12  0x00000000     ABSOLUTE      class     130            x\n"
unfolding symbol_row hex name_text whole_text section_text section_columns whole_columns chars is_utf8 encode digits
other_class = refl
