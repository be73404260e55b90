-- The leaves that steps by level lead to, whatever has been read before: nothing here speaks of an order in which directories are read.
use Rattle.std.specs.Prelude.{◌≡◌, ℕ, zero, suc, false, List, [], ◌∷◌, Option, Some, None, if◌then◌else◌}
use Rattle.std.specs.List.{flat_map}
use Rattle.pe_view.specs.Faults.{Test}
use Rattle.pe_layout.specs.Image.{LaidOut}
use Rattle.pe_resources.specs.declared.entry.Entry.{Entry}
use Rattle.pe_resources.specs.declared.leaf.Leaf.{Leaf}
use Rattle.pe_resources.specs.declared.leaf.Path.{Path}
use Rattle.pe_resources.specs.Entry.{is_directory, offset_of}
use Rattle.pe_resources.specs.Leaves.{leaf_at}
use Rattle.pe_resources.specs.Path.{named, no_path}
use Rattle.pe_resources.specs.Section.{is_held, entries_of, start_of}

-- those of an entry below which there are so many levels, where `directory` gives those of a directory of the next
abbrev pub entry_leaves : LaidOut → ℕ → ℕ → (Path → ℕ → List Leaf) → Path → Entry → List Leaf
entry_leaves i start below directory path e =
    if is_directory e then directory (named below e.name path) (offset_of e.target)
    else (if is_held i start (offset_of e.target) 16 then leaf_at i start (named below e.name path) (offset_of e.target) ∷ [] else [])

-- those of the directory at an offset, which has so many levels
abbrev pub directory_leaves : LaidOut → ℕ → ℕ → Path → ℕ → List Leaf
directory_leaves i start zero path offset = []
directory_leaves i start (suc below) path offset =
    if is_held i start offset 16 then flat_map (entry_leaves i start below (directory_leaves i start below) path) (entries_of i start offset)
    else []

abbrev pub plain_from : LaidOut → ℕ → List Leaf
plain_from i start = if is_held i start 0 16 then directory_leaves i start 3 no_path 0 else []

abbrev pub plain_at : LaidOut → Option ℕ → List Leaf
plain_at i None = []
plain_at i (Some start) = plain_from i start

-- those of an image, by three steps from the root
abbrev pub plain_leaves : LaidOut → List Leaf
plain_leaves i = plain_at i (start_of i)

-- no directory shares bytes with an earlier one: no test of finding 185 stands
abbrev pub NoneShared : List Test → Type 0
NoneShared [] = Unit {0}
NoneShared (t ∷ ts) = (t.fault.number ≡ 185 → t.stands ≡ false) × NoneShared ts
