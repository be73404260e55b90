-- Details in words and by name, written out: each sentence, and the names of its numbers.
use Rattle.std.proofs.Common.{◌≡◌, ℕ, List, [], ◌∷◌, map, refl, codes}
use Rattle.std.specs.Fmt.{digits}
use Rattle.pe_head.specs.declared.detail.FaultDetail.TheVariants.{FileSize, OverLimit, Signature, PastFile, NumberOfSections, SizeOfImage, FixedFields, Directories, SectionTable, HeadersEnd, SectionEnd, InHeaders, InSection}
use Rattle.pe_detail.specs.declared.detail.Detail.{Detail}
use Rattle.pe_detail.specs.declared.detail.Detail.TheVariants.{Head, PastImage, Outside, Unended, Forwarder, Limit, Index, HighBits, TimeStamp, BlockSize, EntryType, FieldBytes, ImageSize, ImageBase, TableSize, NameOffset, Auxiliary}
use Rattle.pe_detail.specs.DetailWords.{detail_words, detail_text}

-- the names of its numbers, and an empty one for each part without a number
abbrev names_of : Detail → List (List ℕ)
names_of detail = map (λ words. words.1) (detail_words detail)

file_size : detail_text (Head (FileSize 20)) ≡ codes "it has 20"
unfolding detail_text detail_words digits
file_size = refl

names_of_file_size : names_of (Head (FileSize 20)) ≡ codes "file_size" ∷ [] ∷ [] ∷ []
unfolding detail_words
names_of_file_size = refl

over_limit : detail_text (Head OverLimit) ≡ codes "it has over 2^32"
unfolding detail_text detail_words digits
over_limit = refl

names_of_over_limit : names_of (Head OverLimit) ≡ [] ∷ [] ∷ [] ∷ []
unfolding detail_words
names_of_over_limit = refl

signature : detail_text (Head (Signature 0x40 64)) ≡ codes "it is 0x40, and the file has 64 bytes"
unfolding detail_text detail_words digits
signature = refl

names_of_signature : names_of (Head (Signature 0x40 64)) ≡ codes "offset" ∷ codes "file_size" ∷ [] ∷ []
unfolding detail_words
names_of_signature = refl

past_file : detail_text (Head (PastFile 16 0x200 520)) ≡ codes "16 bytes at 0x200, and the file has 520"
unfolding detail_text detail_words digits
past_file = refl

names_of_past_file : names_of (Head (PastFile 16 0x200 520)) ≡ codes "size" ∷ codes "offset" ∷ codes "file_size" ∷ []
unfolding detail_words
names_of_past_file = refl

number_of_sections : detail_text (Head (NumberOfSections 97)) ≡ codes "it has 97"
unfolding detail_text detail_words digits
number_of_sections = refl

names_of_number_of_sections : names_of (Head (NumberOfSections 97)) ≡ codes "number_of_sections" ∷ [] ∷ [] ∷ []
unfolding detail_words
names_of_number_of_sections = refl

size_of_image : detail_text (Head (SizeOfImage 0)) ≡ codes "it is 0x0"
unfolding detail_text detail_words digits
size_of_image = refl

names_of_size_of_image : names_of (Head (SizeOfImage 0)) ≡ codes "size_of_image" ∷ [] ∷ [] ∷ []
unfolding detail_words
names_of_size_of_image = refl

fixed_fields : detail_text (Head (FixedFields 0 96)) ≡ codes "it is 0, and the fixed fields take 96"
unfolding detail_text detail_words digits
fixed_fields = refl

names_of_fixed_fields : names_of (Head (FixedFields 0 96)) ≡ codes "size" ∷ codes "needed" ∷ [] ∷ []
unfolding detail_words
names_of_fixed_fields = refl

directories : detail_text (Head (Directories 223 16 224)) ≡ codes "it is 223, and the fixed fields and directories of 16 take 224"
unfolding detail_text detail_words digits
directories = refl

names_of_directories : names_of (Head (Directories 223 16 224)) ≡ codes "size" ∷ codes "directories" ∷ codes "needed" ∷ []
unfolding detail_words
names_of_directories = refl

section_table : detail_text (Head (SectionTable 0x150 0x160)) ≡ codes "they end at 0x150, and the section table at 0x160"
unfolding detail_text detail_words digits
section_table = refl

names_of_section_table : names_of (Head (SectionTable 0x150 0x160)) ≡ codes "end" ∷ codes "table_end" ∷ [] ∷ []
unfolding detail_words
names_of_section_table = refl

headers_end : detail_text (Head (HeadersEnd 0x200 0x100)) ≡ codes "they end at 0x200, and the image at 0x100"
unfolding detail_text detail_words digits
headers_end = refl

names_of_headers_end : names_of (Head (HeadersEnd 0x200 0x100)) ≡ codes "end" ∷ codes "image_end" ∷ [] ∷ []
unfolding detail_words
names_of_headers_end = refl

section_end : detail_text (Head (SectionEnd 0x1010 0x1000)) ≡ codes "it ends at RVA 0x1010, and the image at 0x1000"
unfolding detail_text detail_words digits
section_end = refl

names_of_section_end : names_of (Head (SectionEnd 0x1010 0x1000)) ≡ codes "end" ∷ codes "image_end" ∷ [] ∷ []
unfolding detail_words
names_of_section_end = refl

in_headers : detail_text (Head (InHeaders 0x1ff 0x200)) ≡ codes "it begins at RVA 0x1ff, and the headers end at 0x200"
unfolding detail_text detail_words digits
in_headers = refl

names_of_in_headers : names_of (Head (InHeaders 0x1ff 0x200)) ≡ codes "begin" ∷ codes "headers_end" ∷ [] ∷ []
unfolding detail_words
names_of_in_headers = refl

in_section : detail_text (Head (InSection 0x1004 0x1080)) ≡ codes "it begins at RVA 0x1004, and the section before it ends at 0x1080"
unfolding detail_text detail_words digits
in_section = refl

names_of_in_section : names_of (Head (InSection 0x1004 0x1080)) ≡ codes "begin" ∷ codes "section_end" ∷ [] ∷ []
unfolding detail_words
names_of_in_section = refl

past_image : detail_text (PastImage 40 0x2fd9 0x3000) ≡ codes "40 bytes at RVA 0x2fd9, and the image ends at 0x3000"
unfolding detail_text detail_words digits
past_image = refl

names_of_past_image : names_of (PastImage 40 0x2fd9 0x3000) ≡ codes "size" ∷ codes "rva" ∷ codes "image_end" ∷ []
unfolding detail_words
names_of_past_image = refl

outside : detail_text (Outside 0x3001 0x3000) ≡ codes "the RVA is 0x3001, and the image ends at 0x3000"
unfolding detail_text detail_words digits
outside = refl

names_of_outside : names_of (Outside 0x3001 0x3000) ≡ codes "rva" ∷ codes "image_end" ∷ [] ∷ []
unfolding detail_words
names_of_outside = refl

unended : detail_text (Unended 0x107f 0x1080) ≡ codes "the RVA is 0x107f, and no zero byte follows before 0x1080"
unfolding detail_text detail_words digits
unended = refl

names_of_unended : names_of (Unended 0x107f 0x1080) ≡ codes "rva" ∷ codes "end" ∷ [] ∷ []
unfolding detail_words
names_of_unended = refl

forwarder : detail_text (Forwarder 0x1060 2) ≡ codes "its string at RVA 0x1060 has 2 bytes"
unfolding detail_text detail_words digits
forwarder = refl

names_of_forwarder : names_of (Forwarder 0x1060 2) ≡ codes "rva" ∷ codes "length" ∷ [] ∷ []
unfolding detail_words
names_of_forwarder = refl

limit : detail_text (Limit 65537 65536) ≡ codes "it has 65537, and the limit is 65536"
unfolding detail_text detail_words digits
limit = refl

names_of_limit : names_of (Limit 65537 65536) ≡ codes "count" ∷ codes "limit" ∷ [] ∷ []
unfolding detail_words
names_of_limit = refl

index : detail_text (Index 4 3) ≡ codes "it is 4, and there are 3"
unfolding detail_text detail_words digits
index = refl

names_of_index : names_of (Index 4 3) ≡ codes "index" ∷ codes "count" ∷ [] ∷ []
unfolding detail_words
names_of_index = refl

high_bits : detail_text (HighBits 0x2) ≡ codes "they are 0x2"
unfolding detail_text detail_words digits
high_bits = refl

names_of_high_bits : names_of (HighBits 0x2) ≡ codes "bits" ∷ [] ∷ [] ∷ []
unfolding detail_words
names_of_high_bits = refl

time_stamp : detail_text (TimeStamp 0x1) ≡ codes "it is 0x1"
unfolding detail_text detail_words digits
time_stamp = refl

names_of_time_stamp : names_of (TimeStamp 0x1) ≡ codes "time_stamp" ∷ [] ∷ [] ∷ []
unfolding detail_words
names_of_time_stamp = refl

block_size : detail_text (BlockSize 9 12) ≡ codes "its size is 9, and the directory has 12 bytes left"
unfolding detail_text detail_words digits
block_size = refl

names_of_block_size : names_of (BlockSize 9 12) ≡ codes "size" ∷ codes "left" ∷ [] ∷ []
unfolding detail_words
names_of_block_size = refl

entry_type : detail_text (EntryType 4 0x1008) ≡ codes "the type is 4, and the field is at RVA 0x1008"
unfolding detail_text detail_words digits
entry_type = refl

names_of_entry_type : names_of (EntryType 4 0x1008) ≡ codes "type" ∷ codes "field" ∷ [] ∷ []
unfolding detail_words
names_of_entry_type = refl

field_bytes : detail_text (FieldBytes 4 0x1008) ≡ codes "4 bytes at RVA 0x1008"
unfolding detail_text detail_words digits
field_bytes = refl

names_of_field_bytes : names_of (FieldBytes 4 0x1008) ≡ codes "size" ∷ codes "rva" ∷ [] ∷ []
unfolding detail_words
names_of_field_bytes = refl

image_size : detail_text (ImageSize 0x10100) ≡ codes "SizeOfImage is 0x10100"
unfolding detail_text detail_words digits
image_size = refl

names_of_image_size : names_of (ImageSize 0x10100) ≡ codes "size_of_image" ∷ [] ∷ [] ∷ []
unfolding detail_words
names_of_image_size = refl

image_base : detail_text (ImageBase 0xffffffffffff0000) ≡ codes "ImageBase is 0xffffffffffff0000"
unfolding detail_text detail_words digits
image_base = refl

names_of_image_base : names_of (ImageBase 0xffffffffffff0000) ≡ codes "image_base" ∷ [] ∷ [] ∷ []
unfolding detail_words
names_of_image_base = refl

table_size : detail_text (TableSize 3) ≡ codes "the size is 3"
unfolding detail_text detail_words digits
table_size = refl

names_of_table_size : names_of (TableSize 3) ≡ codes "size" ∷ [] ∷ [] ∷ []
unfolding detail_words
names_of_table_size = refl

name_offset : detail_text (NameOffset 26 25) ≡ codes "the offset is 26, and the table has 25 bytes"
unfolding detail_text detail_words digits
name_offset = refl

names_of_name_offset : names_of (NameOffset 26 25) ≡ codes "offset" ∷ codes "size" ∷ [] ∷ []
unfolding detail_words
names_of_name_offset = refl

auxiliary : detail_text (Auxiliary 5 4) ≡ codes "it has 5, and the table has 4 records left"
unfolding detail_text detail_words digits
auxiliary = refl

names_of_auxiliary : names_of (Auxiliary 5 4) ≡ codes "count" ∷ codes "left" ∷ [] ∷ []
unfolding detail_words
names_of_auxiliary = refl
