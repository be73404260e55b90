-- Lines of an object's dump by the definitions, written out.
use Rattle.std.proofs.Common.{◌≡◌, ℕ, List, [], ◌∷◌, refl, codes}
use Rattle.std.specs.Fmt.{digits}
use Rattle.coff_read.specs.Auxiliary as auxiliary
use Rattle.coff_read.specs.Field.{field}
use Rattle.coff_read.specs.Records.{Bytes, Absent, Section, Symbol}
use Rattle.coff_read.specs.declared.symbol.SymbolSection.TheVariants as belongs
use Rattle.coff_read.specs.Forms.{Plain, Big}
use Rattle.coff_read.specs.TypeNames.{storage_class_names, amd64_type_names, i386_type_names}
use Rattle.pe_head.specs.Names.{machine_names}
use Rattle.pe_text.specs.MachineLine.{machine_line}
use Rattle.pe_text.specs.Field.{field_line}
use Rattle.coff_lines.specs.ObjectLines.{section_line, relocation_line, symbol_line, aux_line, object_text}
use Rattle.pe_text.specs.Text.{hex, quoted, escaped}

-- a section, a relocation and the source's file
long_section : Section
long_section = record {
  name = codes ".text$long";
  virtual_size = 0;
  virtual_address = 0;
  raw = Bytes (0xe8 ∷ 0 ∷ 0 ∷ 0 ∷ 0 ∷ 0xc3 ∷ []);
  flags = 0x60000020;
  relocations = record { address = 1; symbol = 3; kind = 4 } ∷ [];
}

file_symbol : Symbol
file_symbol = record {
  name = codes ".file";
  value = 0;
  section = belongs.Debug;
  kind = 0;
  class = 103;
  aux = 0x61 ∷ 0x2e ∷ 0x63 ∷ 0 ∷ 0 ∷ 0 ∷ 0 ∷ 0 ∷ 0 ∷ 0 ∷ 0 ∷ 0 ∷ 0 ∷ 0 ∷ 0 ∷ 0 ∷ 0 ∷ 0 ∷ [];
}

plain_symbol : List ℕ → Symbol
plain_symbol name = record { name = name; value = 0; section = belongs.Section 1; kind = 0x20; class = 2; aux = [] }

-- the symbol after an auxiliary record has the index after that record's
indexes : object_text Plain (record { machine = 0x8664; time_stamp = 0; characteristics = 0; optional = []; sections = long_section ∷ []; symbols = file_symbol ∷ plain_symbol (codes "abcdefgh") ∷ [] })
    ≡ codes "Machine 0x8664 AMD64\nTimeDateStamp 0x00000000\nCharacteristics 0x0000\nsection 1 \".text$long\" size 0x00000006 bytes flags 0x60000020 relocations 1\nreloc 0x00000001 symbol 3 type 4 REL32\nsymbol 0 \".file\" value 0x00000000 section debug type 0x0000 class 103 FILE aux 1\naux 1 file \"a.c\"\nsymbol 2 \"abcdefgh\" value 0x00000000 section 1 type 0x0020 class 2 EXTERNAL aux 0\nend\n"
unfolding long_section file_symbol plain_symbol object_text machine_line field_line section_line relocation_line symbol_line aux_line quoted escaped hex digits machine_names amd64_type_names i386_type_names storage_class_names
indexes = refl

absent_section : section_line 2 (record long_section { raw = Absent 0x200 }) ≡ codes "section 2 \".text$long\" size 0x00000200 absent flags 0x60000020 relocations 1\n"
unfolding long_section section_line quoted escaped hex digits
absent_section = refl

-- type 4 has no name for I386, and no type has one for ARM64
i386_type : relocation_line 0x14c (record { address = 0x10; symbol = 7; kind = 20 }) ≡ codes "reloc 0x00000010 symbol 7 type 20 REL32\n"
unfolding relocation_line hex digits amd64_type_names i386_type_names
i386_type = refl

i386_other : relocation_line 0x14c (record { address = 0x10; symbol = 7; kind = 4 }) ≡ codes "reloc 0x00000010 symbol 7 type 4\n"
unfolding relocation_line hex digits amd64_type_names i386_type_names
i386_other = refl

arm64_type : relocation_line 0xaa64 (record { address = 0x10; symbol = 7; kind = 4 }) ≡ codes "reloc 0x00000010 symbol 7 type 4\n"
unfolding relocation_line hex digits amd64_type_names i386_type_names
arm64_type = refl

no_class : symbol_line Plain 3 (record file_symbol { name = []; value = 7; section = belongs.Absolute; class = 100; aux = [] })
    ≡ codes "symbol 3 \"\" value 0x00000007 section absolute type 0x0000 class 100 aux 0\n"
unfolding file_symbol symbol_line quoted escaped hex digits storage_class_names
no_class = refl

function : aux_line 4 (auxiliary.Function 5 0x10 0x20 6) ≡ codes "aux 4 function 5 16 0x00000020 6\n"
unfolding aux_line hex digits
function = refl

lines : aux_line 4 (auxiliary.Lines 12 9) ≡ codes "aux 4 lines 12 9\n"
unfolding aux_line digits
lines = refl

weak : aux_line 1 (auxiliary.Weak 0 3) ≡ codes "aux 1 weak 0 3\n"
unfolding aux_line digits
weak = refl

section : aux_line 1 (auxiliary.Section 6 1 0 0xabcdef 2 5) ≡ codes "aux 1 section 6 1 0 0x00abcdef 2 5\n"
unfolding aux_line hex digits
section = refl

raw : aux_line 1 (auxiliary.Raw (0x01 ∷ 0xab ∷ [])) ≡ codes "aux 1 raw 01ab\n"
unfolding aux_line hex digits
raw = refl

-- of a big object: a section number over 65,535, in a symbol and in the record of a section, and two records of 20 bytes
wide_symbol : Symbol
wide_symbol = record {
  name = codes ".text$f";
  value = 0;
  section = belongs.Section 70000;
  kind = 0;
  class = 3;
  aux = 8 ∷ 0 ∷ 0 ∷ 0 ∷ 1 ∷ 0 ∷ 0 ∷ 0 ∷ 0xef ∷ 0xcd ∷ 0xab ∷ 0 ∷ 0x70 ∷ 0x11 ∷ 5 ∷ 0 ∷ 1 ∷ 0 ∷ 0 ∷ 0 ∷ [];
}

wide : object_text Big (record { machine = 0x8664; time_stamp = 0; characteristics = 0; optional = []; sections = []; symbols = wide_symbol ∷ plain_symbol (codes "f") ∷ [] })
    ≡ codes "Machine 0x8664 AMD64\nTimeDateStamp 0x00000000\nCharacteristics 0x0000\nsymbol 0 \".text$f\" value 0x00000000 section 70000 type 0x0000 class 3 STATIC aux 1\naux 1 section 8 1 0 0x00abcdef 70000 5\nsymbol 2 \"f\" value 0x00000000 section 1 type 0x0020 class 2 EXTERNAL aux 0\nend\n"
unfolding wide_symbol plain_symbol object_text machine_line field_line section_line relocation_line symbol_line aux_line quoted escaped hex digits field machine_names amd64_type_names i386_type_names storage_class_names
wide = refl
