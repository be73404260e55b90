-- Which resource of an image is asked for.
use Rattle.std.specs.Prelude.{ℕ, ◌==◌, ◌&&◌, nat_lt, Bool, true, false, List, Option, Some, None}
use Rattle.pe_layout.specs.Image.{LaidOut}
use Rattle.pe_resources.specs.Texts.{name_text_of, is_text_of}
use Rattle.pe_resources.specs.declared.leaf.Leaf.{Leaf}
use Rattle.pe_resource_files.specs.declared.wanted.Wish.{Wish}
use Rattle.pe_resource_files.specs.declared.wanted.Wish.TheVariants.{Id, Text}
use Rattle.pe_resource_files.specs.declared.wanted.Wanted.{Wanted}

-- a name of an entry is this text
abbrev pub is_named : LaidOut → ℕ → List ℕ → Bool
is_named i name text = is_text_of text (name_text_of i name)

-- a name of an entry is this number: one of 2^31 or more is the place of a text
abbrev pub is_numbered : ℕ → ℕ → Bool
is_numbered name id = nat_lt name 0x80000000 && name == id

-- an entry, if there is one, is called as wished
abbrev pub is_wished : LaidOut → Option Wish → Option ℕ → Bool
is_wished i None name = true
is_wished i (Some wish) None = false
is_wished i (Some (Id id)) (Some name) = is_numbered name id
is_wished i (Some (Text text)) (Some name) = is_named i name text.now

-- a leaf is the resource that is wanted
abbrev pub is_wanted : LaidOut → Wanted → Leaf → Bool
is_wanted i wanted leaf = is_wished i wanted.kind leaf.path.kind && is_wished i wanted.name leaf.path.name && is_wished i wanted.language leaf.path.language
