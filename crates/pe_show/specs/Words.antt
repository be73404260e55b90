-- The words of a page. The tables are those of "PE Format"; the code has its own copy, which is proved equal to these.
use Rattle.std.specs.Prelude.{ℕ, ◌-◌, ◌*◌, ◌+◌, ◌^◌, ◌==◌, nat_lt, bit_and, Bool, true, false, not, List, [], ◌∷◌, ◌++◌, Option, None, Some, codes, slice_get, if◌then◌else◌}
use Rattle.pe_head.specs.Names.{Names, name_in, machine_names}
use Rattle.pe_head.specs.declared.headers.Headers.{Headers}
use Rattle.pe_head.specs.declared.optional.Magic.{Magic}
use Rattle.pe_head.specs.declared.optional.Magic.TheVariants.{Pe32, Pe32Plus}
use Rattle.coff_read.specs.declared.section.FileSection.{FileSection}
use Rattle.coff_read.specs.declared.symbol.SymbolSection.{SymbolSection}
use Rattle.coff_read.specs.declared.symbol.SymbolSection.TheVariants as belongs
use Rattle.pe_show.specs.Rows.{type_text}

-- COMDAT Sections: IMAGE_COMDAT_SELECT_NODUPLICATES and so on
unfoldable pub selection_names : Names
selection_names =
    (1, codes "NODUPLICATES") ∷ (2, codes "ANY") ∷ (3, codes "SAME_SIZE") ∷ (4, codes "EXACT_MATCH") ∷ (5, codes "ASSOCIATIVE") ∷
    (6, codes "LARGEST") ∷ []

-- Auxiliary Format 3, Weak Externals: IMAGE_WEAK_EXTERN_SEARCH_NOLIBRARY and so on
unfoldable pub search_names : Names
search_names = (1, codes "NOLIBRARY") ∷ (2, codes "LIBRARY") ∷ (3, codes "ALIAS") ∷ []

-- ---- what a file is
-- the field Magic of an optional header
abbrev pub format_text : Magic → List ℕ
format_text Pe32 = codes "PE32 "
format_text Pe32Plus = codes "PE32+ "

-- a field has one of these flags
abbrev pub has_flag : ℕ → ℕ → Bool
has_flag flags flag = not (bit_and flags flag == 0)

-- an image by Magic, and by whether Characteristics has IMAGE_FILE_DLL
abbrev pub image_text : Headers → List ℕ
image_text h = format_text h.magic ++ ((if has_flag h.characteristics 0x2000 then codes "library" else codes "program") ++ codes " for ")

-- a big object or a plain one
abbrev pub object_text : Bool → List ℕ
object_text true = codes "/bigobj object for "
object_text false = codes "COFF object for "

-- what a file is, in words, and the machine that it is for, by its name or its number
abbrev pub kind_text : List ℕ → ℕ → List ℕ
kind_text words machine = words ++ (type_text (name_in machine_names machine) machine ++ codes ", ")

-- ---- time stamps
-- why a time stamp, in seconds since 1970, is no date: a hash is there, or it is before 1990 (20 years, of which 5 had a leap day), or
-- past what 31 bits count
abbrev pub no_date_text : ℕ → Bool → Option (List ℕ)
no_date_text seconds is_reproducible =
    if is_reproducible then Some (codes "reproducible build")
    else (if nat_lt seconds ((20 * 365 + 5) * 86400) then Some (codes "before 1990")
    else (if nat_lt (2 ^ 31 - 1) seconds then Some (codes "past 2038-01-19") else None))

-- ---- sections and symbols
-- Section Flags: the first of IMAGE_SCN_CNT_CODE, IMAGE_SCN_CNT_INITIALIZED_DATA and IMAGE_SCN_CNT_UNINITIALIZED_DATA
abbrev pub content_text : ℕ → List ℕ
content_text flags =
    if has_flag flags 0x20 then codes "code"
    else (if has_flag flags 0x40 then codes "data" else (if has_flag flags 0x80 then codes "bss" else codes "-"))

abbrev name_of : Option FileSection → List ℕ
name_of None = []
name_of (Some section) = section.name.now

-- the name of the section with an index
abbrev pub section_name_at : List FileSection → ℕ → List ℕ
section_name_at sections index = name_of (slice_get sections index)

-- Section Number Values: the section of a symbol, where `names` gives the name of each by its index
abbrev pub symbol_section_text : (ℕ → List ℕ) → SymbolSection → List ℕ
symbol_section_text names belongs.Undefined = codes "UNDEFINED"
symbol_section_text names belongs.Absolute = codes "ABSOLUTE"
symbol_section_text names belongs.Debug = codes "DEBUG"
symbol_section_text names (belongs.Section number) = names (number - 1)

-- the number of a symbol's section, if it has one
abbrev pub section_number : SymbolSection → Option ℕ
section_number (belongs.Section number) = Some number
section_number belongs.Undefined = None
section_number belongs.Absolute = None
section_number belongs.Debug = None
