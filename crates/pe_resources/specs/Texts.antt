-- The texts that name entries, and the data of leaves.
use Rattle.std.specs.Prelude.{ℕ, ◌+◌, ◌*◌, nat_le, ◌&&◌, Bool, false, List, Option, Some, None, option_and_then, if◌then◌else◌}
use Rattle.std.specs.Str.{bytes_eq}
use Rattle.pe_layout.specs.Image.{LaidOut, bytes_at, number_at}
use Rattle.pe_resources.specs.Entry.{is_text, offset_of}
use Rattle.pe_resources.specs.Section.{has_name, start_of}
use Rattle.pe_resources.specs.declared.entry.Entry.{Entry}
use Rattle.pe_resources.specs.declared.leaf.Leaf.{Leaf}

-- the UTF-16 units of the text at an offset, where it is held: they stand behind two bytes that say how many they are
abbrev pub text_at : LaidOut → ℕ → ℕ → Option (List ℕ)
text_at i start offset =
    if has_name i start offset then Some (bytes_at i (start + (offset + 2)) (2 * number_at 2 i (start + offset))) else None

-- the text of a name, which is the offset of one if its top bit is set
abbrev pub name_text_of : LaidOut → ℕ → Option (List ℕ)
name_text_of i n = option_and_then (λ start. if nat_le 0x80000000 n then text_at i start (offset_of n) else None) (start_of i)

-- a text that is held has these units
abbrev pub is_text_of : List ℕ → Option (List ℕ) → Bool
is_text_of units None = false
is_text_of units (Some text) = bytes_eq text units

-- an entry is named by a text of these units
abbrev pub is_named : LaidOut → ℕ → List ℕ → Entry → Bool
is_named i start units e = is_text e && is_text_of units (text_at i start (offset_of e.name))

-- the data of a leaf, where the file holds all of it in one run
abbrev pub data_of : LaidOut → Leaf → Option (List ℕ)
data_of i leaf = if nat_le leaf.size (i.raw_left leaf.rva) then Some (bytes_at i leaf.rva leaf.size) else None
