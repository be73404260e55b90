-- The imports and the base relocations of an image in a line of JSON.
use Rattle.std.specs.Prelude.{ℕ, List, [], ◌∷◌, codes, map}
use Rattle.pe_tables.specs.Key.{Key, Ordinal, Name}
use Rattle.pe_tables.specs.Imports.{Import}
use Rattle.pe_tables.specs.declared.fixups.Fixup.{Fixup}
use Rattle.pe_tables.specs.declared.fixups.FixupKind.{FixupKind}
use Rattle.pe_tables.specs.declared.fixups.FixupKind.TheVariants.{Bits32, Bits64, High, Low}
use Rattle.json.specs.Print.{quoted}
use Rattle.pe_json.specs.JsonText.{member, object, list, number, name}

-- by what an export is looked up
unfoldable pub key_member : Key → List ℕ
key_member (Ordinal ordinal) = number (codes "ordinal") ordinal
key_member (Name text) = name (codes "name") text

-- an import: the module, the key of its export, and the RVA of the slot
unfoldable pub import_row : Import → List ℕ
import_row i = object (name (codes "module") i.module_name ∷ key_member i.key ∷ number (codes "slot") i.slot ∷ [])

abbrev pub imports_list : List Import → List ℕ
imports_list imports = list (map import_row imports)

-- what a field is: how many bits it has, or which half of an address it holds
unfoldable pub kind_member : FixupKind → List ℕ
kind_member Bits32 = number (codes "bits") 32
kind_member Bits64 = number (codes "bits") 64
kind_member High = member (codes "kind") (quoted (codes "high"))
kind_member Low = member (codes "kind") (quoted (codes "low"))

unfoldable pub fixup_row : Fixup → List ℕ
fixup_row f = object (number (codes "rva") f.field ∷ kind_member f.kind ∷ [])

abbrev pub fixups_list : List Fixup → List ℕ
fixups_list fixups = list (map fixup_row fixups)
