-- The bytes of an archive ("PE Format", Archive (Library) File Format): the signature, the two linker members, the long names if
-- there is one, and the members.
use Rattle.std.specs.Prelude.{◌≡◌, ℕ, ◌+◌, ◌-◌, ◌*◌, ◌%◌, ◌==◌, ◌||◌, Bool, List, [], ◌∷◌, ◌++◌, length, map, filter, replicate, nat_lt, slice_index, if◌then◌else◌}
use Rattle.std.specs.Fmt.{decimal}
use Rattle.std.specs.List.{flat_map, list_any}
use Rattle.byteorder.specs.Endian.{big_bytes}
use Rattle.pe_numbers.specs.declared.number.Number.TheVariants.{U16, U32}
use Rattle.pe_numbers.specs.Numbers.{numbers_bytes}
use Rattle.coff_archive.specs.Members.{signature}
use Rattle.coff_library.specs.Members.{Member}
use Rattle.coff_library.specs.Symbols.{Symbol, symbols_of, IsAscending}

-- filled up with blanks to a width
unfoldable pub padded : ℕ → List ℕ → List ℕ
padded width text = text ++ replicate (width - length text) 32

-- the fields of a header between its name and its size: date 0, user 0, group 0 and mode 644
abbrev pub owner_fields : List ℕ
owner_fields = padded 12 (48 ∷ []) ++ (padded 6 (48 ∷ []) ++ (padded 6 (48 ∷ []) ++ padded 8 (54 ∷ 52 ∷ 52 ∷ [])))

-- the fields of a header behind its name field, for a member of a size
unfoldable pub header_fields : ℕ → List ℕ
header_fields size = owner_fields ++ (padded 10 (decimal size) ++ (96 ∷ 10 ∷ []))

-- the header of a member with a text in its name field, and of a size
unfoldable pub header : List ℕ → ℕ → List ℕ
header name size = padded 16 name ++ header_fields size

-- a line end behind a member of an odd size, so that the next header begins at an even offset
abbrev pub pad : ℕ → List ℕ
pad size = replicate (size % 2) 10

-- a member with its header
abbrev pub record_of : List ℕ → List ℕ → List ℕ
record_of name bytes = header name (length bytes) ++ (bytes ++ pad (length bytes))

-- how many bytes a member of a size takes
abbrev pub room : ℕ → ℕ
room size = 60 + size + size % 2

-- a name that stands in the member `//`, since its field has no room for it and a `/`, or since it has a `/` in it
abbrev pub is_long : List ℕ → Bool
is_long name = nat_lt 15 (length name) || list_any (λ byte. byte == 47) name

-- each text and a zero byte
abbrev pub texts_bytes : List (List ℕ) → List ℕ
texts_bytes texts = flat_map (λ text. text ++ 0 ∷ []) texts

-- the bytes of the member `//`
abbrev pub long_names : List Member → List ℕ
long_names members = texts_bytes (filter is_long (map (λ m. m.name) members))

-- the text in the name field of a member, where the next long name stands at an offset: `name/`, or `/` and the offset
abbrev pub name_text : ℕ → List ℕ → List ℕ
name_text next name = if is_long name then 47 ∷ decimal next else name ++ 47 ∷ []

-- where the next long name stands behind a name
abbrev pub behind_name : ℕ → List ℕ → ℕ
behind_name next name = if is_long name then next + length name + 1 else next

-- the members, where the next long name stands at an offset
abbrev pub records_from : ℕ → List Member → List ℕ
records_from next [] = []
records_from next (m ∷ ms) = record_of (name_text next m.name) m.bytes ++ records_from (behind_name next m.name) ms

-- the file offsets of the headers of members, the first of which is at one
abbrev pub offsets_from : ℕ → List Member → List ℕ
offsets_from at [] = []
offsets_from at (m ∷ ms) = at ∷ offsets_from (at + room (length m.bytes)) ms

-- how many bytes the names of symbols take, and the sizes of the two linker members, the second where there are so many members
abbrev pub names_size : List Symbol → ℕ
names_size [] = 0
names_size (s ∷ ss) = length s.name + 1 + names_size ss

abbrev pub first_size : List Symbol → ℕ
first_size symbols = 4 + 4 * length symbols + names_size symbols

abbrev pub second_size : ℕ → List Symbol → ℕ
second_size members symbols = 8 + 4 * members + 2 * length symbols + names_size symbols

-- how many bytes the member `//` takes, which is there only if it has a name
abbrev pub names_room : ℕ → ℕ
names_room size = if size == 0 then 0 else room size

-- where the header of the first member is
unfoldable pub members_start : List Member → ℕ
members_start members =
    8 + room (first_size (symbols_of members)) + room (second_size (length members) (symbols_of members)) + names_room (length (long_names members))

-- where the headers of the members are
unfoldable pub member_offsets : List Member → List ℕ
member_offsets members = offsets_from (members_start members) members

abbrev pub symbol_names : List Symbol → List ℕ
symbol_names symbols = texts_bytes (map (λ s. s.name) symbols)

-- the first linker member, where the headers of the members are at offsets: how many symbols there are, the offset of the member
-- of each, each number with its highest byte first, and the names
unfoldable pub first_table : List ℕ → List Symbol → List ℕ
first_table offsets symbols =
    big_bytes 4 (length symbols) ++ (flat_map (λ (s : Symbol). big_bytes 4 (slice_index offsets s.member)) symbols ++ symbol_names symbols)

-- the second linker member: how many members there are and the offset of each, how many symbols there are and the index of the
-- member of each, which counts from 1, each number with its lowest byte first, and the names
unfoldable pub second_table : List ℕ → List Symbol → List ℕ
second_table offsets symbols =
    numbers_bytes (U32 (length offsets) ∷ map U32 offsets)
    ++ (numbers_bytes (U32 (length symbols) ∷ map (λ (s : Symbol). U16 (s.member + 1)) symbols) ++ symbol_names symbols)

abbrev pub names_record : List ℕ → List ℕ
names_record names = if length names == 0 then [] else record_of (47 ∷ 47 ∷ []) names

-- the archive of members, where the symbols of the second linker member are in an order
unfoldable pub archive_with : List Member → List Symbol → List ℕ
archive_with members order =
    signature ++ (record_of (47 ∷ []) (first_table (member_offsets members) (symbols_of members))
    ++ (record_of (47 ∷ []) (second_table (member_offsets members) order)
    ++ (names_record (long_names members) ++ records_from 0 members)))

-- bytes are an archive of members
pub record IsArchiveOf (members : List Member) (bytes : List ℕ) : Type 0 where
  pub order : List Symbol
  pub ascending : IsAscending (symbols_of members) order
  pub written : bytes ≡ archive_with members order
