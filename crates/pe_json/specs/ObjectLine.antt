-- The line of an object of either form without a fault.
use Rattle.std.specs.Prelude.{ℕ, zero, suc, ◌+◌, ◌*◌, false, true, List, [], ◌∷◌, ◌++◌, codes, map}
use Rattle.std.specs.List.{range_with_len}
use Rattle.json.specs.Print.{quoted}
use Rattle.pe_view.specs.Number.{part}
use Rattle.pe_head.specs.Names.{name_in}
use Rattle.pe_head.specs.declared.section.SectionHeader.{SectionHeader}
use Rattle.coff_read.specs.Alignment.{alignment_of}
use Rattle.coff_read.specs.Auxiliary as auxiliary
use Rattle.coff_read.specs.Auxiliary.{AuxRecord}
use Rattle.coff_read.specs.BigLeft.{indexed}
use Rattle.coff_read.specs.BigObjectFile.{big_file_header}
use Rattle.coff_read.specs.EitherObject.{form_in}
use Rattle.coff_read.specs.FormAuxiliary.{aux_of}
use Rattle.coff_read.specs.FormReading.{object_of, section_in, section_starts, symbol_indexes}
use Rattle.coff_read.specs.FormRecords.{aux_records}
use Rattle.coff_read.specs.Forms.{Form, symbol_len}
use Rattle.coff_read.specs.Headers.{file_header, section_header}
use Rattle.coff_read.specs.Records.{Section, Symbol}
use Rattle.coff_read.specs.TypeNames.{storage_class_names, relocation_type_names}
use Rattle.coff_read.specs.declared.relocation.Relocation.{Relocation}
use Rattle.coff_read.specs.declared.symbol.SymbolSection.{SymbolSection}
use Rattle.coff_read.specs.declared.symbol.SymbolSection.TheVariants as belongs
use Rattle.pe_json.specs.JsonText.{member, object, list, number, number_if, name, text_if, hex_string, numbered_rows}
use Rattle.pe_json.specs.BigHeader.{big_members}
use Rattle.pe_json.specs.Headers.{coff_members}
use Rattle.pe_json.specs.Line.{line}
use Rattle.pe_json.specs.Sections.{section_members}

-- ---- sections
-- the fields of a relocation
unfoldable pub relocation_numbers : Relocation → List (List ℕ)
relocation_numbers r = number (codes "symbol_table_index") r.symbol ∷ number (codes "type") r.kind ∷ []

-- a relocation, and the name of its type for the machine
abbrev pub relocation_row : ℕ → Relocation → List ℕ
relocation_row machine r = object
    (number (codes "virtual_address") r.address ∷ (relocation_numbers r ++ text_if (codes "type_name") (name_in (relocation_type_names machine) r.kind)))

unfoldable pub relocations_members : ℕ → List Relocation → List (List ℕ)
relocations_members machine relocations = member (codes "relocations") (list (map (relocation_row machine) relocations)) ∷ []

-- its alignment in bytes, if its flags tell one
abbrev pub alignment_members : ℕ → List (List ℕ)
alignment_members flags = number_if (codes "alignment") (alignment_of flags)

-- a section with its header, and its number from 1
abbrev pub object_section_row : ℕ → ℕ → SectionHeader × Section → List ℕ
object_section_row machine index s = object
    (number (codes "number") index
    ∷ (section_members s.1.name s.0 ++ (alignment_members s.0.characteristics ++ relocations_members machine s.1.relocations)))

-- the sections of an object, each with its header
abbrev pub sections_of : Form → List ℕ → List (SectionHeader × Section)
sections_of big file = map (λ h. (section_header file h, section_in big file h)) (section_starts big file)

-- ---- auxiliary records
-- what an auxiliary record is, and its fields
unfoldable pub aux_members : AuxRecord → List (List ℕ)
aux_members (auxiliary.Function tag_index total_size pointer_to_linenumber pointer_to_next_function) =
    member (codes "kind") (quoted (codes "function"))
    ∷ number (codes "tag_index") tag_index
    ∷ number (codes "total_size") total_size
    ∷ number (codes "pointer_to_linenumber") pointer_to_linenumber
    ∷ number (codes "pointer_to_next_function") pointer_to_next_function ∷ []
aux_members (auxiliary.Lines linenumber next) =
    member (codes "kind") (quoted (codes "lines")) ∷ number (codes "linenumber") linenumber ∷ number (codes "pointer_to_next_function") next ∷ []
aux_members (auxiliary.Weak tag_index characteristics) =
    member (codes "kind") (quoted (codes "weak_external")) ∷ number (codes "tag_index") tag_index ∷ number (codes "characteristics") characteristics ∷ []
aux_members (auxiliary.File text) = member (codes "kind") (quoted (codes "file")) ∷ name (codes "file_name") text ∷ []
aux_members (auxiliary.Section len relocations line_numbers checksum section selection) =
    member (codes "kind") (quoted (codes "section_definition"))
    ∷ number (codes "length") len
    ∷ number (codes "number_of_relocations") relocations
    ∷ number (codes "number_of_linenumbers") line_numbers
    ∷ number (codes "check_sum") checksum
    ∷ number (codes "number") section
    ∷ number (codes "selection") selection ∷ []
aux_members (auxiliary.Raw bytes) = member (codes "kind") (quoted (codes "raw")) ∷ member (codes "bytes_hex") (hex_string bytes) ∷ []

-- an auxiliary record, with its index
abbrev pub aux_row : ℕ → AuxRecord → List ℕ
aux_row index aux = object (number (codes "index") index ∷ aux_members aux)

-- auxiliary record k of a symbol, where its first has the index
abbrev pub aux_row_at : Form → ℕ → Symbol → ℕ → List ℕ
aux_row_at big index s k = aux_row (index + k) (aux_of big s (part s.aux (symbol_len big * k) (symbol_len big)))

-- the list of a symbol's auxiliary records, of which the first has the index
abbrev pub aux_list : Form → ℕ → Symbol → List ℕ
aux_list big index s = list (map (aux_row_at big index s) (range_with_len 0 (aux_records big s)))

-- the same as a member, if there are any
abbrev pub aux_list_members : Form → ℕ → ℕ → Symbol → List (List ℕ)
aux_list_members big zero index s = []
aux_list_members big (suc n) index s = member (codes "auxiliary_records") (aux_list big index s) ∷ []

-- ---- symbols
unfoldable pub symbol_name : Symbol → List (List ℕ)
symbol_name s = name (codes "name") s.name ∷ []

-- the section of a symbol: its number from 1, or a word
unfoldable pub section_of_symbol : SymbolSection → List ℕ
section_of_symbol belongs.Undefined = member (codes "section") (quoted (codes "UNDEFINED"))
section_of_symbol belongs.Absolute = member (codes "section") (quoted (codes "ABSOLUTE"))
section_of_symbol belongs.Debug = member (codes "section") (quoted (codes "DEBUG"))
section_of_symbol (belongs.Section n) = number (codes "section_number") n

unfoldable pub symbol_fields : Symbol → List (List ℕ)
symbol_fields s =
    number (codes "value") s.value
    ∷ section_of_symbol s.section
    ∷ number (codes "type") s.kind
    ∷ number (codes "storage_class") s.class ∷ []

-- a symbol with the index of its record, and its auxiliary records, which come after that
abbrev pub symbol_row : Form → ℕ → Symbol → List ℕ
symbol_row big index s = object
    (number (codes "index") index
    ∷ (symbol_name s ++ (symbol_fields s
    ++ (text_if (codes "storage_class_name") (name_in storage_class_names s.class) ++ aux_list_members big (aux_records big s) (index + 1) s))))

-- ---- the line
-- the form of an object
abbrev pub format_name : Form → List ℕ
format_name false = codes "COFF"
format_name true = codes "BIGOBJ"

-- the fields of its header
abbrev pub header_members : Form → List ℕ → List (List ℕ)
header_members false file = coff_members (file_header file)
header_members true file = big_members (big_file_header file)

unfoldable pub object_members : Form → List ℕ → List (List ℕ)
object_members big file =
    member (codes "format") (quoted (format_name big))
    ∷ member (codes "headers") (object (header_members big file))
    ∷ member (codes "sections") (list (numbered_rows (object_section_row (object_of big file).machine) 1 (sections_of big file)))
    ∷ member (codes "symbols") (list (map (λ item. symbol_row big item.0 item.1) (indexed big file (symbol_indexes big file)))) ∷ []

-- the line of an object of a form without a fault, from its file
abbrev pub line_of_form : Form → List ℕ → List ℕ → List ℕ
line_of_form big text file = line text true (object_members big file)

-- the same, of the form that its file is read in
abbrev pub object_line : List ℕ → List ℕ → List ℕ
object_line text file = line_of_form (form_in file) text file
