-- The resources of an image in a line of JSON: the leaves of its resource tree, its version information and its manifest.
use Rattle.std.specs.Prelude.{ℕ, ◌^◌, List, [], ◌∷◌, ◌++◌, codes, nat_le, map, take, Option, None, Some, option_map, option_and_then, if◌then◌else◌}
use Rattle.pe_head.specs.declared.directory.Directory.{Directory}
use Rattle.pe_layout.specs.Image.{LaidOut}
use Rattle.pe_resources.specs.Single.{manifest_of}
use Rattle.pe_resources.specs.Texts.{data_of, name_text_of}
use Rattle.pe_resources.specs.Walk.{leaves_of}
use Rattle.pe_resources.specs.declared.leaf.Leaf.{Leaf}
use Rattle.pe_json.specs.Utf16.{utf8_text}
use Rattle.pe_json.specs.JsonText.{member, object, list, number, name, text_if}
use Rattle.pe_json.specs.VersionRows.{version_members}
use Rattle.pe_json.specs.declared.resources.Level.{Level}
use Rattle.pe_json.specs.declared.resources.Level.TheVariants.{Kind, Name, Language}

-- what is told of the text of a name: at most 256 units
abbrev pub told_units : List ℕ → List ℕ
told_units units = take 512 units

-- what an entry's name says: a text, if the file holds it in one run, or an id
unfoldable pub entry_name : LaidOut → List ℕ → ℕ → List (List ℕ)
entry_name i key n =
    if nat_le (2 ^ 31) n then text_if key (option_map utf8_text (option_map told_units (name_text_of i n))) else number key n ∷ []

abbrev pub level_key : Level → List ℕ
level_key Kind = codes "type"
level_key Name = codes "name"
level_key Language = codes "language"

-- that of a level, if the tree has it there
abbrev pub level_name : LaidOut → List ℕ → Option ℕ → List (List ℕ)
level_name i key None = []
level_name i key (Some n) = entry_name i key n

unfoldable pub leaf_numbers : Leaf → List (List ℕ)
leaf_numbers leaf = number (codes "size") leaf.size ∷ number (codes "code_page") leaf.code_page ∷ []

abbrev pub leaf_names : LaidOut → Leaf → List (List ℕ)
leaf_names i leaf =
    level_name i (codes "type") leaf.path.kind ++ (level_name i (codes "name") leaf.path.name ++ level_name i (codes "language") leaf.path.language)

-- a leaf: where its data are, and which names lead to it
abbrev pub leaf_row : LaidOut → Leaf → List ℕ
leaf_row i leaf = object (number (codes "rva") leaf.rva ∷ (leaf_numbers leaf ++ leaf_names i leaf))

-- the member that lists the leaves, if there is a resource directory
unfoldable pub leaves_members : LaidOut → List Leaf → Option Directory → List (List ℕ)
leaves_members i leaves None = []
leaves_members i leaves (Some d) = member (codes "resources") (list (map (leaf_row i) leaves)) ∷ []

-- the manifest, if there is one that the file holds in one run
unfoldable pub manifest_if : Option (List ℕ) → List (List ℕ)
manifest_if None = []
manifest_if (Some text) = name (codes "manifest") text ∷ []

abbrev pub manifest_members : LaidOut → List (List ℕ)
manifest_members i = manifest_if (option_and_then (data_of i) (manifest_of i))

abbrev pub resource_members : LaidOut → List (List ℕ)
resource_members i = leaves_members i (leaves_of i) (i.directory 2) ++ (version_members i ++ manifest_members i)
