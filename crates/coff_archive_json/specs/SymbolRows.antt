-- The lists of an archive's symbols.
use Rattle.std.specs.Prelude.{ℕ, List, [], ◌∷◌, ◌++◌, codes, map, Option, None, Some}
use Rattle.coff_archive.specs.Symbols.{Symbol}
use Rattle.pe_json.specs.JsonText.{member, object, list, name, number_if, with_commas}

-- a symbol, and where the header of the member that defines it stands; that is left out where the table has no offset of its index
abbrev pub symbol_row : Symbol → List ℕ
symbol_row s = object (name (codes "name") s.name ∷ number_if (codes "offset") s.member)

-- the list of a linker member's symbols, if the archive has that member
unfoldable pub symbols_if : List ℕ → Option (List Symbol) → List (List ℕ)
symbols_if key None = []
symbols_if key (Some symbols) = member key (list (map symbol_row symbols)) ∷ []

-- the same behind its key and a bracket, as code adds it
abbrev pub symbols_value_if : List ℕ → Option (List Symbol) → List ℕ
symbols_value_if key None = []
symbols_value_if key (Some symbols) = key ++ (with_commas (map symbol_row symbols) ++ codes "]")
