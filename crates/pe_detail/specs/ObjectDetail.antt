-- What the rules of faults 63 to 72 compare, in an object of either form.
use Rattle.std.specs.Prelude.{ℕ, ◌+◌, ◌-◌, ◌*◌, ◌/◌, ◌==◌, false, true, nat_le, nat_lt, List, length, Option, None, Some, if◌then◌else◌, option_map, option_and_then}
use Rattle.pe_head.specs.declared.detail.FaultDetail.TheVariants.{PastFile}
use Rattle.coff_read.specs.Field.{field}
use Rattle.coff_read.specs.EitherObject.{form_in}
use Rattle.coff_read.specs.FormReading.{symbol_pointer, record_count, strings_size}
use Rattle.coff_read.specs.Forms.{Form, header_len, sections_at, symbols_at, records_at, number_width, symbol_len, aux_at, section_count}
use Rattle.pe_detail.specs.declared.detail.Detail.{Detail}
use Rattle.pe_detail.specs.declared.detail.Detail.TheVariants.{Head, Index, TableSize, NameOffset, Auxiliary}

-- the number in a field of the record at a file offset, if it is in the file
abbrev pub field_in : List ℕ → ℕ → ℕ → ℕ → Option ℕ
field_in file at offset width = if nat_le (at + offset + width) (length file) then Some (field file at offset width) else None

-- bytes that extend past the end of a file of `size` bytes: `count` records of `width` bytes at an offset
abbrev pub past_file : ℕ → ℕ → Option ℕ → Option ℕ → Option Detail
past_file size width count offset =
    option_and_then (λ records. option_map (λ begin. Head (PastFile (width * records) begin size)) offset) count

-- where the section table begins: after the optional header
abbrev pub section_table : Form → List ℕ → Option ℕ
section_table false file = option_map (λ optional. 20 + optional) (field_in file 0 16 2)
section_table true file = Some 56

-- fault 63: the section table
abbrev pub section_table_detail : Form → List ℕ → ℕ → Option Detail
section_table_detail big file size = past_file size 40 (field_in file 0 (sections_at big) (number_width big)) (section_table big file)

-- faults 64 and 66 of the section whose header is at a file offset: its raw data, its relocations
abbrev pub raw_detail : List ℕ → ℕ → ℕ → Option Detail
raw_detail file size h = past_file size 1 (field_in file h 16 4) (field_in file h 20 4)

abbrev pub relocations_detail : List ℕ → ℕ → ℕ → Option Detail
relocations_detail file size h = past_file size 10 (field_in file h 32 2) (field_in file h 24 4)

-- fault 67: the symbol table
abbrev pub symbols_detail : Form → List ℕ → ℕ → Option Detail
symbols_detail big file size = past_file size (symbol_len big) (field_in file 0 (records_at big) 4) (field_in file 0 (symbols_at big) 4)

-- fault 68: the string table at a file offset: its size field is cut off, or the size is too small, or passes the end of the file
abbrev pub strings_detail_of : ℕ → ℕ → Option ℕ → Detail
strings_detail_of size at None = Head (PastFile 4 at size)
strings_detail_of size at (Some stated) = if nat_lt stated 4 then TableSize stated else Head (PastFile stated at size)

abbrev pub strings_detail : List ℕ → ℕ → ℕ → Detail
strings_detail file size at = strings_detail_of size at (field_in file at 0 4)

-- fault 69 of the symbol whose record is at a file offset, also in the section table: its first four bytes are 0, unlike those of a
-- section's name that tells an offset
abbrev pub name_detail : Form → List ℕ → ℕ → Option Detail
name_detail big file at =
    if field file at 0 4 == 0 then option_map (λ offset. NameOffset offset (strings_size big file)) (field_in file at 4 4)
    else None

-- fault 70 of the symbol whose record is at a file offset
abbrev pub auxiliary_detail : Form → List ℕ → ℕ → Option Detail
auxiliary_detail big file at =
    option_map (λ count. Auxiliary count (record_count big file - ((at - symbol_pointer big file) / symbol_len big + 1))) (field_in file at (aux_at big) 1)

-- fault 71 of the symbol whose record is at a file offset
abbrev pub section_number_detail : Form → List ℕ → ℕ → Option Detail
section_number_detail big file at = option_map (λ number. Index number (section_count big file)) (field_in file at 12 (number_width big))

-- fault 72 of the relocation at a file offset
abbrev pub symbol_index_detail : Form → List ℕ → ℕ → Option Detail
symbol_index_detail big file at = option_map (λ index. Index index (record_count big file)) (field_in file at 4 4)

-- faults 63 to 72 at a file offset, of a file with a header
abbrev pub record_detail : Form → List ℕ → ℕ → ℕ → ℕ → Option Detail
record_detail big file size number at =
    if number == 63 then section_table_detail big file size
    else (if number == 64 then raw_detail file size at
    else (if number == 66 then relocations_detail file size at
    else (if number == 67 then symbols_detail big file size
    else (if number == 68 then Some (strings_detail file size at)
    else (if number == 69 then name_detail big file at
    else (if number == 70 then auxiliary_detail big file at
    else (if number == 71 then section_number_detail big file at
    else (if number == 72 then symbol_index_detail big file at
    else None))))))))

-- the same in a form
abbrev pub detail_in_form : Form → List ℕ → ℕ → ℕ → ℕ → Option Detail
detail_in_form big file size number at = if nat_le (header_len big) (length file) then record_detail big file size number at else None

-- the same in the form that the file is read in
abbrev pub object_detail : List ℕ → ℕ → ℕ → ℕ → Option Detail
object_detail file size number at = detail_in_form (form_in file) file size number at
