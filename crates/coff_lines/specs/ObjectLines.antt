-- The lines of an object's dump, in either form.
use Rattle.std.specs.Prelude.{ℕ, ◌+◌, ◌*◌, ◌==◌, Bool, if◌then◌else◌, List, [], ◌∷◌, ◌++◌, codes, decimal, flat_map, length, Option, None}
use Rattle.std.specs.List.{list_any, range_with_len}
use Rattle.pe_view.specs.Number.{part}
use Rattle.pe_head.specs.Names.{name_in}
use Rattle.coff_read.specs.TypeNames.{storage_class_names, relocation_type_names}
use Rattle.coff_read.specs.Auxiliary as auxiliary
use Rattle.coff_read.specs.Auxiliary.{AuxRecord}
use Rattle.coff_read.specs.FormAuxiliary.{aux_of}
use Rattle.coff_read.specs.FormRecords.{aux_records}
use Rattle.coff_read.specs.Forms.{Form, symbol_len}
use Rattle.coff_read.specs.Records as object
use Rattle.coff_read.specs.Records.{Object, Raw, Section, Symbol, raw_size}
use Rattle.coff_read.specs.declared.relocation.Relocation.{Relocation}
use Rattle.coff_read.specs.declared.symbol.SymbolSection.{SymbolSection}
use Rattle.coff_read.specs.declared.symbol.SymbolSection.TheVariants as belongs
use Rattle.pe_text.specs.MachineLine.{machine_line}
use Rattle.pe_text.specs.Field.{field_line, time_date_stamp, characteristics}
use Rattle.pe_text.specs.Part.{joined, name_text}
use Rattle.pe_text.specs.Text.{hex, quoted, numbered}

-- ---- names
-- the storage classes that a dump names
abbrev pub dumped_classes : List ℕ
dumped_classes = 0 ∷ 2 ∷ 3 ∷ 6 ∷ 101 ∷ 103 ∷ 104 ∷ 105 ∷ []

-- the types of a machine's relocations that a dump names
abbrev pub dumped_types : ℕ → List ℕ
dumped_types machine =
    if machine == 0x8664 then 0 ∷ 1 ∷ 2 ∷ 3 ∷ 4 ∷ 5 ∷ 6 ∷ 7 ∷ 8 ∷ 9 ∷ 10 ∷ 11 ∷ []
    else (if machine == 0x14c then 0 ∷ 6 ∷ 7 ∷ 10 ∷ 11 ∷ 20 ∷ [] else [])

-- a number is one of these
abbrev pub is_among : List ℕ → ℕ → Bool
is_among numbers number = list_any (λ one. number == one) numbers

abbrev pub class_name : ℕ → Option (List ℕ)
class_name class = if is_among dumped_classes class then name_in storage_class_names class else None

abbrev pub type_name : ℕ → ℕ → Option (List ℕ)
type_name machine kind = if is_among (dumped_types machine) kind then name_in (relocation_type_names machine) kind else None

-- ---- sections
abbrev pub raw_word : Raw → List ℕ
raw_word (object.Bytes bytes) = codes " bytes"
raw_word (object.Absent size) = codes " absent"

-- a section, with its number from 1
unfoldable pub section_line : ℕ → Section → List ℕ
section_line number s = joined
    (codes "section " ∷ decimal number ∷ codes " " ∷ quoted s.name ∷ codes " size 0x" ∷ hex 8 (raw_size s.raw) ∷ raw_word s.raw
    ∷ codes " flags 0x" ∷ hex 8 s.flags ∷ codes " relocations " ∷ decimal (length s.relocations) ∷ codes "\n" ∷ [])

-- a relocation: its VirtualAddress, its SymbolTableIndex, and its Type with the name for the machine
unfoldable pub relocation_line : ℕ → Relocation → List ℕ
relocation_line machine r = joined
    (codes "reloc 0x" ∷ hex 8 r.address ∷ codes " symbol " ∷ decimal r.symbol
    ∷ codes " type " ∷ decimal r.kind ∷ name_text (type_name machine r.kind) ∷ codes "\n" ∷ [])

abbrev pub section_lines : ℕ → ℕ → Section → List ℕ
section_lines machine number s = section_line number s ++ flat_map (relocation_line machine) s.relocations

-- ---- symbols
-- the section of a symbol
abbrev pub section_text : SymbolSection → List ℕ
section_text belongs.Undefined = codes "undefined"
section_text belongs.Absolute = codes "absolute"
section_text belongs.Debug = codes "debug"
section_text (belongs.Section number) = decimal number

-- a symbol, with the index of its record
unfoldable pub symbol_line : Form → ℕ → Symbol → List ℕ
symbol_line big index s = joined
    (codes "symbol " ∷ decimal index ∷ codes " " ∷ quoted s.name ∷ codes " value 0x" ∷ hex 8 s.value
    ∷ codes " section " ∷ section_text s.section ∷ codes " type 0x" ∷ hex 4 s.kind
    ∷ codes " class " ∷ decimal s.class ∷ name_text (class_name s.class)
    ∷ codes " aux " ∷ decimal (aux_records big s) ∷ codes "\n" ∷ [])

-- the fields of an auxiliary record, by its format
abbrev pub shape_text : AuxRecord → List ℕ
shape_text (auxiliary.Function tag_index total_size pointer_to_linenumber pointer_to_next_function) = joined
    (codes "function " ∷ decimal tag_index ∷ codes " " ∷ decimal total_size
    ∷ codes " 0x" ∷ hex 8 pointer_to_linenumber ∷ codes " " ∷ decimal pointer_to_next_function ∷ [])
shape_text (auxiliary.Lines line next) = joined (codes "lines " ∷ decimal line ∷ codes " " ∷ decimal next ∷ [])
shape_text (auxiliary.Weak tag_index search_kind) = joined (codes "weak " ∷ decimal tag_index ∷ codes " " ∷ decimal search_kind ∷ [])
shape_text (auxiliary.File name) = joined (codes "file " ∷ quoted name ∷ [])
shape_text (auxiliary.Section len relocations line_numbers checksum number selection) = joined
    (codes "section " ∷ decimal len ∷ codes " " ∷ decimal relocations ∷ codes " " ∷ decimal line_numbers
    ∷ codes " 0x" ∷ hex 8 checksum ∷ codes " " ∷ decimal number ∷ codes " " ∷ decimal selection ∷ [])
shape_text (auxiliary.Raw bytes) = codes "raw " ++ flat_map (hex 2) bytes

-- an auxiliary record, with its index
unfoldable pub aux_line : ℕ → AuxRecord → List ℕ
aux_line index aux = codes "aux " ++ decimal index ++ codes " " ++ shape_text aux ++ codes "\n"

-- the lines of a symbol's auxiliary records, of which the first has the index
abbrev pub aux_lines : Form → ℕ → Symbol → List ℕ
aux_lines big index s =
    flat_map (λ k. aux_line (index + k) (aux_of big s (part s.aux (symbol_len big * k) (symbol_len big)))) (range_with_len 0 (aux_records big s))

-- the lines of symbols, of which the first has the index: after each symbol's come those of its auxiliary records
abbrev pub symbol_lines : Form → ℕ → List Symbol → List ℕ
symbol_lines big index [] = []
symbol_lines big index (s ∷ ss) = symbol_line big index s ++ (aux_lines big (index + 1) s ++ symbol_lines big (index + (1 + aux_records big s)) ss)

-- ---- the whole dump
unfoldable pub object_text : Form → Object → List ℕ
object_text big o =
    machine_line o.machine
    ++ flat_map field_line (time_date_stamp o.time_stamp ∷ characteristics o.characteristics ∷ [])
    ++ numbered (section_lines o.machine) 1 o.sections
    ++ symbol_lines big 0 o.symbols
    ++ codes "end\n"
