-- Directories of the resource tree that are read one at a time, and what their entries lead to.
use Rattle.std.specs.Prelude.{ℕ, List, Option, Some, None, option_and_then, if◌then◌else◌}
use Rattle.pe_layout.specs.Image.{LaidOut}
use Rattle.pe_layout.specs.Layout.{image_of}
use Rattle.pe_resources.specs.Entry.{is_directory, offset_of}
use Rattle.pe_resources.specs.Leaves.{leaf_at}
use Rattle.pe_resources.specs.Section.{is_held, entries_at, entries_of, start_of}
use Rattle.pe_resources.specs.declared.entry.Entry.{Entry}
use Rattle.pe_resources.specs.declared.leaf.Leaf.{Leaf}
use Rattle.pe_resources.specs.declared.leaf.Path.{Path}
use Rattle.pe_resources.specs.declared.directory.Directory.{Directory}

-- its entries, in table order
abbrev pub entries_in : Directory → List Entry
entries_in d = entries_at (image_of d.section.layout.now) d.section.start d.offset d.count

-- the entries of the directory at an offset, whose first 16 bytes are held
abbrev pub directory_at : LaidOut → ℕ → ℕ → Option (List Entry)
directory_at i start offset = if is_held i start offset 16 then Some (entries_of i start offset) else None

-- the entries of the directory that an entry leads to
abbrev pub directory_of : LaidOut → ℕ → Entry → Option (List Entry)
directory_of i start e = if is_directory e then directory_at i start (offset_of e.target) else None

-- the leaf that an entry leads to
abbrev pub leaf_of : LaidOut → ℕ → Path → Entry → Option Leaf
leaf_of i start path e =
    if is_directory e then None
    else (if is_held i start (offset_of e.target) 16 then Some (leaf_at i start path (offset_of e.target)) else None)

-- the entries of an image's root
abbrev pub root_of : LaidOut → Option (List Entry)
root_of i = option_and_then (λ start. directory_at i start 0) (start_of i)
