-- The text that an import hash is the digest of: imports in the order of their table, each as module.symbol, with commas between them.
use Rattle.std.specs.Prelude.{ℕ, ◌-◌, ◌||◌, nat_le, Bool, List, [], ◌∷◌, ◌++◌, length, take, drop, codes, decimal, Option, None, Some, option_map, unwrap_or, if◌then◌else◌}
use Rattle.std.specs.List.{list_all, flat_map}
use Rattle.std.specs.Str.{bytes_eq, str_to_ascii_lowercase}
use Rattle.md5.specs.Md5.{md5}
use Rattle.pe_tables.specs.Key.{Key, Ordinal, Name}
use Rattle.pe_tables.specs.Imports.{Import}
use Rattle.pe_imphash.specs.Characters.{is_file_character, is_symbol_character}
use Rattle.pe_imphash.specs.Oleaut32.{oleaut32_name}
use Rattle.pe_imphash.specs.Winsock.{winsock_name}

-- the first 512 bytes of a name, in lower case
abbrev pub lower : List ℕ → List ℕ
lower name = str_to_ascii_lowercase (take 512 name)

-- a module's name
abbrev pub module_text : List ℕ → List ℕ
module_text name = if list_all is_file_character (take 512 name) then lower name else codes "*invalid*"

abbrev pub has_extension : List ℕ → Bool
has_extension name =
    let extension = drop (length name - 4) name in
    bytes_eq extension (codes ".dll") || bytes_eq extension (codes ".ocx") || bytes_eq extension (codes ".sys")

-- a name without its extension, if that is one of a library, a control or a driver
abbrev pub stem : List ℕ → List ℕ
stem name = if has_extension name then take (length name - 4) name else name

-- a symbol's name
abbrev pub name_text : List ℕ → List ℕ
name_text name = if list_all is_symbol_character (take 512 name) then lower name else codes "*invalid*"

-- the name of an ordinal of a module whose programs import by ordinal
abbrev pub ordinal_name : List ℕ → ℕ → Option (List ℕ)
ordinal_name module_name ordinal =
    if bytes_eq module_name (codes "oleaut32.dll") then oleaut32_name ordinal else
    (if bytes_eq module_name (codes "ws2_32.dll") || bytes_eq module_name (codes "wsock32.dll") then winsock_name ordinal else None)

abbrev pub ordinal_text : List ℕ → ℕ → List ℕ
ordinal_text module_name ordinal = unwrap_or (option_map lower (ordinal_name module_name ordinal)) (codes "ord" ++ decimal ordinal)

-- what a module's key imports
abbrev pub symbol_text : List ℕ → Key → List ℕ
symbol_text module_name (Ordinal ordinal) = ordinal_text module_name ordinal
symbol_text module_name (Name name) = name_text name

abbrev pub import_text : Import → List ℕ
import_text i = stem (module_text i.module_name) ++ codes "." ++ symbol_text (module_text i.module_name) i.key

-- an import behind another
abbrev pub further_text : Import → List ℕ
further_text i = codes "," ++ import_text i

-- the text of an image's imports
abbrev pub hashed_text : List Import → List ℕ
hashed_text [] = []
hashed_text (i ∷ is) = import_text i ++ flat_map further_text is

-- the digest of a text, if there are imports and it has at most so many bytes
abbrev pub import_hash_within : ℕ → List Import → Option (List ℕ)
import_hash_within most [] = None
import_hash_within most (i ∷ is) = if nat_le (length (hashed_text (i ∷ is))) most then Some (md5 (hashed_text (i ∷ is))) else None

abbrev pub import_hash_of : List Import → Option (List ℕ)
import_hash_of imports = import_hash_within 16777216 imports
