-- The numbers that the rule of a fault compares, in words: words, and the number after them with its name.
use Rattle.std.specs.Prelude.{ℕ, false, List, [], ◌∷◌, ◌++◌, codes, decimal, flat_map}
use Rattle.std.specs.Fmt.{digits}
use Rattle.pe_head.specs.declared.detail.FaultDetail.{FaultDetail}
use Rattle.pe_head.specs.declared.detail.FaultDetail.TheVariants.{FileSize, OverLimit, Signature, PastFile, NumberOfSections, SizeOfImage, FixedFields, Directories, SectionTable, HeadersEnd, SectionEnd, InHeaders, InSection}
use Rattle.pe_detail.specs.declared.detail.Detail.{Detail}
use Rattle.pe_detail.specs.declared.detail.Detail.TheVariants.{Head, PastImage, Outside, Unended, Forwarder, Limit, Index, HighBits, TimeStamp, BlockSize, EntryType, FieldBytes, ImageSize, ImageBase, TableSize, NameOffset, Auxiliary}
use Rattle.pe_detail.specs.declared.words.Amount.{Amount}
use Rattle.pe_detail.specs.declared.words.Amount.TheVariants.{Nothing, Count, Place}
use Rattle.pe_detail.specs.declared.words.DetailPart.{DetailPart}

-- words, the name of the number after them, and that number
abbrev pub Words : Type 0
Words = List ℕ × List ℕ × Amount

abbrev pub part_view : DetailPart → Words
part_view part = (part.words.now, part.name.now, part.amount)

-- words before a size or a count
abbrev pub count_words : List ℕ → List ℕ → ℕ → Words
count_words words name number = (words, name, Count number)

-- words before a file offset, an RVA, an address or a field
abbrev pub place_words : List ℕ → List ℕ → ℕ → Words
place_words words name number = (words, name, Place number)

-- words that no number follows
abbrev pub last_words : List ℕ → Words
last_words words = (words, [], Nothing)

-- one part, or two, of three
abbrev pub one_part : Words → List Words
one_part first = first ∷ last_words [] ∷ last_words [] ∷ []

abbrev pub two_parts : Words → Words → List Words
two_parts first second = first ∷ second ∷ last_words [] ∷ []

-- a detail of the headers, of section headers and of an object's parts
abbrev pub head_words : FaultDetail → List Words
head_words (FileSize size) = one_part (count_words (codes "it has ") (codes "file_size") size)
head_words OverLimit = one_part (last_words (codes "it has over 2^32"))
head_words (Signature offset file_size) =
    place_words (codes "it is ") (codes "offset") offset
    ∷ count_words (codes ", and the file has ") (codes "file_size") file_size
    ∷ last_words (codes " bytes") ∷ []
head_words (PastFile size offset file_size) =
    count_words [] (codes "size") size
    ∷ place_words (codes " bytes at ") (codes "offset") offset
    ∷ count_words (codes ", and the file has ") (codes "file_size") file_size ∷ []
head_words (NumberOfSections number) = one_part (count_words (codes "it has ") (codes "number_of_sections") number)
head_words (SizeOfImage size) = one_part (place_words (codes "it is ") (codes "size_of_image") size)
head_words (FixedFields size needed) =
    two_parts (count_words (codes "it is ") (codes "size") size) (count_words (codes ", and the fixed fields take ") (codes "needed") needed)
head_words (Directories size directories needed) =
    count_words (codes "it is ") (codes "size") size
    ∷ count_words (codes ", and the fixed fields and directories of ") (codes "directories") directories
    ∷ count_words (codes " take ") (codes "needed") needed ∷ []
head_words (SectionTable end table_end) =
    two_parts (place_words (codes "they end at ") (codes "end") end) (place_words (codes ", and the section table at ") (codes "table_end") table_end)
head_words (HeadersEnd end image_end) =
    two_parts (place_words (codes "they end at ") (codes "end") end) (place_words (codes ", and the image at ") (codes "image_end") image_end)
head_words (SectionEnd end image_end) =
    two_parts (place_words (codes "it ends at RVA ") (codes "end") end) (place_words (codes ", and the image at ") (codes "image_end") image_end)
head_words (InHeaders begin headers_end) =
    two_parts (place_words (codes "it begins at RVA ") (codes "begin") begin) (place_words (codes ", and the headers end at ") (codes "headers_end") headers_end)
head_words (InSection begin section_end) =
    two_parts (place_words (codes "it begins at RVA ") (codes "begin") begin)
    (place_words (codes ", and the section before it ends at ") (codes "section_end") section_end)

-- a detail: the parts that it does not need are empty
unfoldable pub detail_words : Detail → List Words
detail_words (Head detail) = head_words detail
detail_words (PastImage size rva image_end) =
    count_words [] (codes "size") size
    ∷ place_words (codes " bytes at RVA ") (codes "rva") rva
    ∷ place_words (codes ", and the image ends at ") (codes "image_end") image_end ∷ []
detail_words (Outside rva image_end) =
    two_parts (place_words (codes "the RVA is ") (codes "rva") rva) (place_words (codes ", and the image ends at ") (codes "image_end") image_end)
detail_words (Unended rva end) =
    two_parts (place_words (codes "the RVA is ") (codes "rva") rva) (place_words (codes ", and no zero byte follows before ") (codes "end") end)
detail_words (Forwarder rva size) =
    place_words (codes "its string at RVA ") (codes "rva") rva
    ∷ count_words (codes " has ") (codes "length") size
    ∷ last_words (codes " bytes") ∷ []
detail_words (Limit count limit) =
    two_parts (count_words (codes "it has ") (codes "count") count) (count_words (codes ", and the limit is ") (codes "limit") limit)
detail_words (Index index count) =
    two_parts (count_words (codes "it is ") (codes "index") index) (count_words (codes ", and there are ") (codes "count") count)
detail_words (HighBits bits) = one_part (place_words (codes "they are ") (codes "bits") bits)
detail_words (TimeStamp stamp) = one_part (place_words (codes "it is ") (codes "time_stamp") stamp)
detail_words (BlockSize size left) =
    count_words (codes "its size is ") (codes "size") size
    ∷ count_words (codes ", and the directory has ") (codes "left") left
    ∷ last_words (codes " bytes left") ∷ []
detail_words (EntryType kind field) =
    two_parts (count_words (codes "the type is ") (codes "type") kind) (place_words (codes ", and the field is at RVA ") (codes "field") field)
detail_words (FieldBytes size rva) =
    two_parts (count_words [] (codes "size") size) (place_words (codes " bytes at RVA ") (codes "rva") rva)
detail_words (ImageSize size) = one_part (place_words (codes "SizeOfImage is ") (codes "size_of_image") size)
detail_words (ImageBase base) = one_part (place_words (codes "ImageBase is ") (codes "image_base") base)
detail_words (TableSize size) = one_part (count_words (codes "the size is ") (codes "size") size)
detail_words (NameOffset offset size) =
    count_words (codes "the offset is ") (codes "offset") offset
    ∷ count_words (codes ", and the table has ") (codes "size") size
    ∷ last_words (codes " bytes") ∷ []
detail_words (Auxiliary count left) =
    count_words (codes "it has ") (codes "count") count
    ∷ count_words (codes ", and the table has ") (codes "left") left
    ∷ last_words (codes " records left") ∷ []

-- words and a number: a size or a count in decimal, a place or a field in hexadecimal
abbrev pub with_amount : List ℕ → Amount → List ℕ
with_amount words Nothing = words
with_amount words (Count number) = words ++ decimal number
with_amount words (Place number) = words ++ codes "0x" ++ digits 16 false number

abbrev pub words_text : Words → List ℕ
words_text words = with_amount words.0 words.2

abbrev pub part_text : DetailPart → List ℕ
part_text part = words_text (part_view part)

-- a detail as a clause of a sentence
unfoldable pub detail_text : Detail → List ℕ
detail_text detail = flat_map words_text (detail_words detail)
