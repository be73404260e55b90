-- Single resources that are found by level: version information and the manifest.
use Rattle.std.specs.Prelude.{ℕ, ◌==◌, List, Option, Some, slice_get, find, option_and_then}
use Rattle.std.specs.Option.{option_or}
use Rattle.pe_layout.specs.Image.{LaidOut}
use Rattle.pe_resources.specs.Root.{directory_at, directory_of, leaf_of}
use Rattle.pe_resources.specs.Section.{start_of}
use Rattle.pe_resources.specs.Texts.{is_named}
use Rattle.pe_resources.specs.declared.entry.Entry.{Entry}
use Rattle.pe_resources.specs.declared.leaf.Leaf.{Leaf}

-- the first entry in table order
abbrev pub first_of : List Entry → Option Entry
first_of entries = slice_get entries 0

-- the first entry with an id
abbrev pub with_id : ℕ → List Entry → Option Entry
with_id id entries = find (λ e. e.name == id) entries

-- the first entry with a text
abbrev pub with_text : LaidOut → ℕ → List ℕ → List Entry → Option Entry
with_text i start units entries = find (is_named i start units) entries

-- the names of a type: the entries of the directory that the root's first entry with its id leads to
abbrev pub names_from : LaidOut → ℕ → ℕ → Option (List Entry)
names_from i start kind = option_and_then (directory_of i start) (option_and_then (with_id kind) (directory_at i start 0))

-- the leaf of a name: that of the first language
abbrev pub leaf_of_name : LaidOut → ℕ → ℕ → Entry → Option Leaf
leaf_of_name i start kind name =
    option_and_then (λ e. leaf_of i start (record { kind = Some kind; name = Some name.name; language = Some e.name }) e)
    (option_and_then first_of (directory_of i start name))

-- the leaf of a type whose name is chosen from those of the type
abbrev pub chosen_leaf : LaidOut → ℕ → (List Entry → Option Entry) → Option Leaf
chosen_leaf i kind choose =
    option_and_then (λ start. option_and_then (leaf_of_name i start kind) (option_and_then choose (names_from i start kind))) (start_of i)

-- version information: type 16, its first name, the first language of that
abbrev pub version_of : LaidOut → Option Leaf
version_of i = chosen_leaf i 16 first_of

-- of a type's names that with id 1, else that with id 2, else the first
abbrev pub manifest_name : List Entry → Option Entry
manifest_name names = option_or (option_or (with_id 1 names) (with_id 2 names)) (first_of names)

-- the manifest: type 24, the name that `manifest_name` says, the first language of that
abbrev pub manifest_of : LaidOut → Option Leaf
manifest_of i = chosen_leaf i 24 manifest_name
