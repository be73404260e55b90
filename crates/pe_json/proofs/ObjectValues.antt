-- What a line says of an object is JSON.
use Rattle.std.proofs.Common.{◌≡◌, ◌+◌, ℕ, zero, suc, Bool, true, false, List, [], codes, refl}
use Rattle.std.specs.Prelude.{◌==◌, ◌*◌, if◌then◌else◌}
use Rattle.std.specs.List.{range_with_len}
use Rattle.pe_view.specs.Number.{part}
use Rattle.pe_head.specs.Names.{Names, name_in, machine_names}
use Rattle.pe_head.specs.declared.section.SectionHeader.{SectionHeader}
use Rattle.coff_read.specs.Alignment.{alignment_of}
use Rattle.coff_read.specs.Auxiliary as auxiliary
use Rattle.coff_read.specs.Auxiliary.{AuxRecord}
use Rattle.coff_read.specs.BigLeft.{indexed}
use Rattle.coff_read.specs.BigObjectFile.{big_file_header}
use Rattle.coff_read.specs.FormAuxiliary.{aux_of}
use Rattle.coff_read.specs.FormReading.{object_of, symbol_indexes}
use Rattle.coff_read.specs.FormRecords.{aux_records}
use Rattle.coff_read.specs.Forms.{Form, symbol_len}
use Rattle.coff_read.specs.Headers.{file_header}
use Rattle.coff_read.specs.Records.{Section, Symbol}
use Rattle.coff_read.specs.TypeNames.{storage_class_names, amd64_type_names, i386_type_names, arm64_type_names, arm_type_names, relocation_type_names}
use Rattle.coff_read.specs.declared.relocation.Relocation.{Relocation}
use Rattle.coff_read.specs.declared.symbol.SymbolSection.{SymbolSection}
use Rattle.coff_read.specs.declared.symbol.SymbolSection.TheVariants as belongs
use Rattle.coff_read.specs.declared.big_header.BigFileHeader.{BigFileHeader}
use Rattle.pe_json.specs.BigHeader.{big_numbers, big_members}
use Rattle.pe_json.specs.Headers.{coff_members}
use Rattle.pe_json.specs.JsonText.{member}
use Rattle.pe_json.specs.Sections.{section_members}
use Rattle.json.specs.Print.{quoted}
use Rattle.pe_json.specs.ObjectLine.{alignment_members, relocation_numbers, relocation_row, relocations_members, object_section_row, sections_of, aux_members, aux_row, aux_row_at, aux_list, aux_list_members, symbol_name, section_of_symbol, symbol_fields, symbol_row, format_name, header_members, object_members}
use Rattle.pe_json.proofs.Printed.{IsValue, IsMember, AreMembers, items_value, members_value}
use Rattle.pe_json.proofs.JsonMembers.{is_member, number_member, number_if_members, word_member, name_member, hex_value, members_then, text_members, row_values, numbered_values}
use Rattle.pe_json.proofs.ImageValues.{are_ascii_names, named, machines_ascii, are_coff_members, are_section_members}

-- ---- sections
either : (b : Bool) (names others : Names) → are_ascii_names names ≡ true → are_ascii_names others ≡ true → are_ascii_names (if b then names else others) ≡ true
either true names others h k = h
either false names others h k = k

types_ascii : (machine : ℕ) → are_ascii_names (relocation_type_names machine) ≡ true
unfolding amd64_type_names i386_type_names arm64_type_names arm_type_names
types_ascii machine =
    either (machine == 0x8664) amd64_type_names _ refl (either (machine == 0x14c) i386_type_names _ refl (either (machine == 0xaa64) arm64_type_names _ refl
    (either (machine == 0x1c0) arm_type_names _ refl (either (machine == 0x1c4) arm_type_names [] refl refl))))

are_relocation_numbers : (limit : ℕ) (r : Relocation) → AreMembers limit (relocation_numbers r)
unfolding relocation_numbers
are_relocation_numbers limit r = (number_member _ _ _ refl, (number_member _ _ _ refl, tt))

relocation_value : (limit machine : ℕ) (r : Relocation) → IsValue (suc limit) (relocation_row machine r)
relocation_value limit machine r =
    members_value limit _ (
      number_member _ _ _ refl,
      members_then _ (relocation_numbers r) _ (are_relocation_numbers _ r) (text_members limit _ (name_in (relocation_type_names machine) r.kind) refl (named (relocation_type_names machine) r.kind (types_ascii machine))),
    )

are_relocations : (limit machine : ℕ) (relocations : List Relocation) → AreMembers (suc (suc limit)) (relocations_members machine relocations)
unfolding relocations_members
are_relocations limit machine relocations = (is_member _ _ _ refl (items_value (suc limit) _ (row_values (suc limit) (relocation_row machine) relocations (relocation_value limit machine))), tt)

section_value : (limit machine index : ℕ) (s : SectionHeader × Section) → IsValue (suc (suc (suc limit))) (object_section_row machine index s)
section_value limit machine index s =
    members_value (suc (suc limit)) _ (
      number_member _ _ _ refl,
      members_then _ (section_members s.1.name s.0) _ (are_section_members (suc limit) s.1.name s.0)
          (members_then _ (alignment_members s.0.characteristics) (relocations_members machine s.1.relocations)
          (number_if_members _ _ (alignment_of s.0.characteristics) refl) (are_relocations limit machine s.1.relocations)),
    )

-- ---- auxiliary records
are_aux_members : (limit : ℕ) (aux : AuxRecord) → AreMembers limit (aux_members aux)
unfolding aux_members
are_aux_members limit (auxiliary.Function tag_index total_size pointer_to_linenumber pointer_to_next_function) = (word_member _ _ (codes "function") refl refl, search number_member)
are_aux_members limit (auxiliary.Lines linenumber next) = (word_member _ _ (codes "lines") refl refl, search number_member)
are_aux_members limit (auxiliary.Weak tag_index characteristics) = (word_member _ _ (codes "weak_external") refl refl, search number_member)
are_aux_members limit (auxiliary.File t) = (word_member _ _ (codes "file") refl refl, search name_member)
are_aux_members limit (auxiliary.Section len relocations line_numbers checksum section selection) = (word_member _ _ (codes "section_definition") refl refl, search number_member)
are_aux_members limit (auxiliary.Raw bytes) = (word_member _ _ (codes "raw") refl refl, search (is_member, hex_value))

aux_value : (limit index : ℕ) (aux : AuxRecord) → IsValue (suc limit) (aux_row index aux)
aux_value limit index aux = members_value limit _ (number_member _ _ _ refl, are_aux_members limit aux)

aux_list_value : (big : Form) (limit index : ℕ) (s : Symbol) → IsValue (suc (suc limit)) (aux_list big index s)
aux_list_value big limit index s =
    items_value (suc limit) _
    (row_values (suc limit) (aux_row_at big index s) (range_with_len 0 (aux_records big s)) (λ k. aux_value limit (index + k) (aux_of big s (part s.aux (symbol_len big * k) (symbol_len big)))))

are_aux_lists : (big : Form) (limit count index : ℕ) (s : Symbol) → AreMembers (suc (suc limit)) (aux_list_members big count index s)
are_aux_lists big limit zero index s = tt
are_aux_lists big limit (suc n) index s = (is_member _ _ _ refl (aux_list_value big limit index s), tt)

-- ---- symbols
are_symbol_name : (limit : ℕ) (s : Symbol) → AreMembers limit (symbol_name s)
unfolding symbol_name
are_symbol_name limit s = (name_member _ _ _ refl refl, tt)

is_section_member : (limit : ℕ) (section : SymbolSection) → IsMember limit (section_of_symbol section)
unfolding section_of_symbol
is_section_member limit belongs.Undefined = word_member _ _ (codes "UNDEFINED") refl refl
is_section_member limit belongs.Absolute = word_member _ _ (codes "ABSOLUTE") refl refl
is_section_member limit belongs.Debug = word_member _ _ (codes "DEBUG") refl refl
is_section_member limit (belongs.Section n) = number_member _ _ _ refl

are_symbol_fields : (limit : ℕ) (s : Symbol) → AreMembers limit (symbol_fields s)
unfolding symbol_fields
are_symbol_fields limit s = (number_member _ _ _ refl, (is_section_member limit s.section, (number_member _ _ _ refl, (number_member _ _ _ refl, tt))))

classes_ascii : are_ascii_names storage_class_names ≡ true
unfolding storage_class_names
classes_ascii = refl

pub symbol_value : (big : Form) (limit index : ℕ) (s : Symbol) → IsValue (suc (suc (suc limit))) (symbol_row big index s)
symbol_value big limit index s =
    members_value (suc (suc limit)) _ (
      number_member _ _ _ refl,
      members_then _ (symbol_name s) _ (are_symbol_name _ s)
          (members_then _ (symbol_fields s) _ (are_symbol_fields _ s)
          (members_then _ _ (aux_list_members big (aux_records big s) (index + 1) s)
          (text_members (suc (suc limit)) _ (name_in storage_class_names s.class) refl (named storage_class_names s.class classes_ascii))
          (are_aux_lists big limit (aux_records big s) (index + 1) s))),
    )

-- ---- the header
are_big_numbers : (limit : ℕ) (h : BigFileHeader) → AreMembers limit (big_numbers h)
unfolding big_numbers
are_big_numbers limit h = search number_member

are_header_members : (big : Form) (limit : ℕ) (file : List ℕ) → AreMembers (suc (suc (suc limit))) (header_members big file)
are_header_members false limit file = are_coff_members (suc (suc limit)) (file_header file)
are_header_members true limit file =
    let h = big_file_header file in (
      number_member _ _ _ refl,
      members_then _ _ (big_numbers h) (text_members _ _ (name_in machine_names h.machine) refl (named machine_names h.machine machines_ascii)) (are_big_numbers _ h),
    )

is_format : (big : Form) (limit : ℕ) → IsMember limit (member (codes "format") (quoted (format_name big)))
is_format false limit = word_member _ _ (codes "COFF") refl refl
is_format true limit = word_member _ _ (codes "BIGOBJ") refl refl

-- ---- all of it
pub are_object_members : (big : Form) (limit : ℕ) (file : List ℕ) → AreMembers (suc (suc (suc (suc limit)))) (object_members big file)
unfolding object_members
are_object_members big limit file = (
  is_format big _,
  (
    is_member _ _ _ refl (members_value (suc (suc (suc limit))) (header_members big file) (are_header_members big limit file)),
    (
      is_member _ _ _ refl
          (items_value (suc (suc (suc limit))) _ (numbered_values (suc (suc (suc limit))) (object_section_row (object_of big file).machine) 1 (sections_of big file) (section_value limit (object_of big file).machine))),
      (
        is_member _ _ _ refl
            (items_value (suc (suc (suc limit))) _
            (row_values (suc (suc (suc limit))) (λ (item : ℕ × Symbol). symbol_row big item.0 item.1) (indexed big file (symbol_indexes big file)) (λ item. symbol_value big limit item.0 item.1))),
        tt,
      ),
    ),
  ),
)
