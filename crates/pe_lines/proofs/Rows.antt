-- Examples of lines as the definitions give them.
use Rattle.std.proofs.Common.{◌≡◌, [], ◌∷◌, refl, codes}
use Rattle.std.specs.Fmt.{digits}
use Rattle.pe_head.specs.declared.section.SectionHeader.{SectionHeader}
use Rattle.pe_tables.specs.Key.{Ordinal, Name, Forward, Rva}
use Rattle.pe_tables.specs.declared.fixups.FixupKind.TheVariants.{Bits32, Bits64, High, Low}
use Rattle.pe_text.specs.Text.{hex, escaped, quoted}
use Rattle.pe_lines.specs.Dump.{directory_line, section_line}
use Rattle.pe_lines.specs.SumLine.{sum_line}
use Rattle.pe_lines.specs.TableLines.{key_text, target_text, ordinal_line, name_line, export_lines, import_line, kind_text, fixup_line}

directory_5 : directory_line 5 (record { rva = 0x2000; size = 12 }) ≡ codes "Directory 5 0x00002000 0x0000000c\n"
unfolding directory_line hex digits
directory_5 = refl

-- .data, padded with zero bytes, of 16 bytes in the image
data_section : SectionHeader
data_section = record {
  name = 0x2e ∷ 0x64 ∷ 0x61 ∷ 0x74 ∷ 0x61 ∷ 0 ∷ 0 ∷ 0 ∷ [];
  virtual_size = 0x10;
  virtual_address = 0x1000;
  size_of_raw_data = 0x200;
  pointer_to_raw_data = 0x200;
  pointer_to_relocations = 0;
  pointer_to_linenumbers = 0;
  number_of_relocations = 0;
  number_of_linenumbers = 0;
  characteristics = 0xc0000040;
}

section_0 : section_line 0 data_section ≡ codes "section 0 \".data\" va 0x00001000 extent 0x00000010 raw 0x00000200 rawlen 0x00000010 flags 0xc0000040\n"
unfolding data_section section_line quoted escaped hex digits
section_0 = refl

-- .bss$abc, a name of 8 characters without a zero byte; the section is larger in the image than in the file
longer_section : SectionHeader
longer_section = record {
  name = 0x2e ∷ 0x62 ∷ 0x73 ∷ 0x73 ∷ 0x24 ∷ 0x61 ∷ 0x62 ∷ 0x63 ∷ [];
  virtual_size = 0x3004;
  virtual_address = 0x5000;
  size_of_raw_data = 0x600;
  pointer_to_raw_data = 0x1200;
  pointer_to_relocations = 0;
  pointer_to_linenumbers = 0;
  number_of_relocations = 0;
  number_of_linenumbers = 0;
  characteristics = 0x40000040;
}

section_11 : section_line 11 longer_section ≡ codes "section 11 \".bss$abc\" va 0x00005000 extent 0x00003004 raw 0x00001200 rawlen 0x00000600 flags 0x40000040\n"
unfolding longer_section section_line quoted escaped hex digits
section_11 = refl

by_ordinal : ordinal_line (5, Rva 0x1004) ≡ codes "export #5 rva 0x00001004\n"
unfolding ordinal_line target_text hex digits
by_ordinal = refl

by_name : name_line (codes "f", Forward (codes "b") (Ordinal 7)) ≡ codes "export \"f\" forward \"b\" #7\n"
unfolding name_line target_text key_text quoted escaped digits
by_name = refl

-- a"b\, and a byte that is not ASCII
by_escaped_name : name_line (0x61 ∷ 0x22 ∷ 0x62 ∷ 0x5c ∷ 0xff ∷ [], Rva 0x2ffc) ≡ codes "export \"a\\x22b\\x5c\\xff\" rva 0x00002ffc\n"
unfolding name_line target_text quoted escaped hex
by_escaped_name = refl

by_other_name : name_line (codes "g", Forward (codes "c.d") (Name (codes "h"))) ≡ codes "export \"g\" forward \"c.d\" \"h\"\n"
unfolding name_line target_text key_text quoted escaped
by_other_name = refl

-- an image with one export, by ordinal 5 and by name
one_export : export_lines (record { ordinals = (5, Rva 0x1004) ∷ []; names = (codes "f", Rva 0x1004) ∷ []; name_ordinals = 5 ∷ [] })
    ≡ codes "export #5 rva 0x00001004\nexport \"f\" rva 0x00001004\n"
unfolding export_lines ordinal_line name_line target_text quoted escaped hex digits
one_export = refl

import_by_name : import_line (record { module_name = codes "A.DLL"; key = Name (codes "f"); slot = 0x1030 }) ≡ codes "import \"A.DLL\" \"f\" slot 0x00001030\n"
unfolding import_line key_text quoted escaped hex
import_by_name = refl

import_by_ordinal : import_line (record { module_name = codes "B"; key = Ordinal 65535; slot = 0x2008 }) ≡ codes "import \"B\" #65535 slot 0x00002008\n"
unfolding import_line key_text quoted escaped hex digits
import_by_ordinal = refl

import_escaped : import_line (record { module_name = 0x22 ∷ 0x41 ∷ 0xff ∷ []; key = Name (0x5c ∷ 0x66 ∷ []); slot = 0x1038 })
    ≡ codes "import \"\\x22A\\xff\" \"\\x5cf\" slot 0x00001038\n"
unfolding import_line key_text quoted escaped hex
import_escaped = refl

field_of_32_bits : fixup_line (record { entry = 0x3008; field = 0x1008; kind = Bits32 }) ≡ codes "fixup 0x00001008 32\n"
unfolding fixup_line kind_text hex
field_of_32_bits = refl

field_of_64_bits : fixup_line (record { entry = 0x300a; field = 0x1ff8; kind = Bits64 }) ≡ codes "fixup 0x00001ff8 64\n"
unfolding fixup_line kind_text hex
field_of_64_bits = refl

high_field : fixup_line (record { entry = 0x2008; field = 0x100a; kind = High }) ≡ codes "fixup 0x0000100a high\n"
unfolding fixup_line kind_text hex
high_field = refl

low_field : fixup_line (record { entry = 0x200a; field = 0x1008; kind = Low }) ≡ codes "fixup 0x00001008 low\n"
unfolding fixup_line kind_text hex
low_field = refl

-- the field and the checksum of Debian's signed shim, as pefile computes it
sum : sum_line 0x0010791b 0x0010791b ≡ codes "check sum 0x0010791b computed 0x0010791b\n"
unfolding sum_line hex digits
sum = refl

-- a field that is 0
no_sum : sum_line 0 0x00012a5f ≡ codes "check sum 0x00000000 computed 0x00012a5f\n"
unfolding sum_line hex digits
no_sum = refl
