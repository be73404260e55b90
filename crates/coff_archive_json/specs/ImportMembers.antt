-- What is told of a short import object.
use Rattle.std.specs.Prelude.{ℕ, List, [], ◌∷◌, ◌++◌, codes, Option, None, Some}
use Rattle.json.specs.Print.{quoted}
use Rattle.pe_head.specs.Names.{name_in, machine_names}
use Rattle.coff_archive.specs.Imports.{Import, import_name}
use Rattle.coff_lines.specs.ArchiveLines.{kind_name}
use Rattle.pe_json.specs.JsonText.{member, object, number, name, text_if}

-- when it was made, its symbol and its DLL
unfoldable pub text_members : Import → List (List ℕ)
text_members i = number (codes "time_date_stamp") i.time_stamp ∷ name (codes "symbol") i.symbol ∷ name (codes "module") i.«module» ∷ []

-- the name that is imported and its hint, or the ordinal
unfoldable pub imported_members : Option (List ℕ) → ℕ → List (List ℕ)
imported_members None ordinal = number (codes "ordinal") ordinal ∷ []
imported_members (Some text) hint = name (codes "name") text ∷ number (codes "hint") hint ∷ []

-- what is imported, and how the name is made
unfoldable pub type_members : Import → List (List ℕ)
type_members i = number (codes "type") i.kind ∷ member (codes "type_name") (quoted (kind_name i.kind)) ∷ number (codes "name_type") i.name_type ∷ []

abbrev pub import_row : Import → List ℕ
import_row i = object
    (number (codes "machine") i.machine
    ∷ (text_if (codes "machine_name") (name_in machine_names i.machine) ++ (text_members i ++ (imported_members (import_name i) i.ordinal ++ type_members i))))

unfoldable pub import_members : Import → List (List ℕ)
import_members i = member (codes "format") (quoted (codes "import object")) ∷ member (codes "import") (import_row i) ∷ []
