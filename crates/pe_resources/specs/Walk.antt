-- The walk through the resource tree: depth first, and in table order, so that what is read is told in the order in which it is read.
use Rattle.std.specs.Prelude.{ℕ, zero, suc, ◌+◌, ◌*◌, Bool, true, not, ◌&&◌, ◌==◌, List, [], ◌∷◌, ◌++◌, Option, Some, None, if◌then◌else◌}
use Rattle.pe_view.specs.Faults.{Test}
use Rattle.pe_layout.specs.Image.{LaidOut, is_inside, fault_at}
use Rattle.pe_ranges.specs.Ranges.{meets_any}
use Rattle.pe_resources.specs.declared.entry.Entry.{Entry}
use Rattle.pe_resources.specs.declared.leaf.Leaf.{Leaf}
use Rattle.pe_resources.specs.declared.leaf.Path.{Path}
use Rattle.pe_resources.specs.Entry.{is_text, is_directory, offset_of}
use Rattle.pe_resources.specs.Leaves.{leaf_at}
use Rattle.pe_resources.specs.Order.{is_ascending}
use Rattle.pe_resources.specs.Path.{no_path, named}
use Rattle.pe_resources.specs.Section.{is_held, entry_count, whole_count, entry_at, has_name, start_of}

-- what has been read
pub record Walk : Type 0 where
  pub leaves : List Leaf
  pub tests : List Test  -- all that was asked
  pub before : List (ℕ × ℕ)  -- the bytes of the directories that were entered, each by its offset and how many they are

abbrev pub nothing : Walk
nothing = record { leaves = []; tests = []; before = [] }

abbrev pub asked : List Test → Walk → Walk
asked ts w = record { leaves = w.leaves; tests = w.tests ++ ts; before = w.before }

abbrev pub finding : LaidOut → ℕ → ℕ → ℕ → Bool → Test
finding i start number offset stands = record { stands = stands; fault = fault_at number i (start + offset) }

-- 183: the section has not the whole text of an entry's name
abbrev pub name_tests : LaidOut → ℕ → Entry → List Test
name_tests i start e = finding i start 183 (offset_of e.name) (is_text e && not (has_name i start (offset_of e.name))) ∷ []

-- 184: the section has not the whole data entry; 186: it stands where a directory should; 188: its data pass the image
abbrev pub leaf_tests : LaidOut → ℕ → ℕ → Leaf → ℕ → List Test
leaf_tests i start below leaf offset =
    finding i start 184 offset (not (is_held i start offset 16))
    ∷ (if is_held i start offset 16 then
    finding i start 186 offset (not (below == 0))
    ∷ finding i start 188 offset (not (is_inside i leaf.rva leaf.size))
    ∷ []
    else [])

-- the data entry at an offset, below which there are so many levels
abbrev pub read_leaf : LaidOut → ℕ → ℕ → Path → ℕ → Walk → Walk
read_leaf i start below path offset w = record {
  leaves = w.leaves ++ (if is_held i start offset 16 then leaf_at i start path offset ∷ [] else []);
  tests = w.tests ++ leaf_tests i start below (leaf_at i start path offset) offset;
  before = w.before;
}

-- how many bytes the directory at an offset has: of those that it says to have, as far as they are held
abbrev pub whole_len : LaidOut → ℕ → ℕ → ℕ
whole_len i start offset = 16 + 8 * whole_count i start offset

-- it has a byte in common with a directory that was entered
abbrev pub is_shared : LaidOut → ℕ → List (ℕ × ℕ) → ℕ → Bool
is_shared i start before offset = meets_any offset (whole_len i start offset) before

-- 182: the section has not the whole directory; 185: it is shared
abbrev pub directory_tests : LaidOut → ℕ → List (ℕ × ℕ) → ℕ → List Test
directory_tests i start before offset =
    if is_held i start offset 16 then
    finding i start 182 offset (not (is_held i start offset (16 + 8 * entry_count i start offset)))
    ∷ finding i start 185 offset (is_shared i start before offset)
    ∷ []
    else finding i start 182 offset true ∷ []

-- 189: its entries do not ascend
abbrev pub order_tests : LaidOut → ℕ → ℕ → List Test
order_tests i start offset = finding i start 189 offset (not (is_ascending i start offset (whole_count i start offset))) ∷ []

-- a directory is entered where the section has its first 16 bytes, and it is not shared
abbrev pub is_entered : LaidOut → ℕ → List (ℕ × ℕ) → ℕ → Bool
is_entered i start before offset = is_held i start offset 16 && not (is_shared i start before offset)

abbrev pub entered : LaidOut → ℕ → ℕ → Walk → Walk
entered i start offset w = record {
  leaves = w.leaves;
  tests = (w.tests ++ directory_tests i start w.before offset) ++ order_tests i start offset;
  before = (offset, whole_len i start offset) ∷ w.before;
}

-- an entry below which there are so many levels, where `directory` reads a directory of the next
abbrev pub read_entry : LaidOut → ℕ → ℕ → (Path → ℕ → Walk → Walk) → Path → Entry → Walk → Walk
read_entry i start below directory path e w =
    if is_directory e then directory (named below e.name path) (offset_of e.target) (asked (name_tests i start e) w)
    else read_leaf i start below (named below e.name path) (offset_of e.target) (asked (name_tests i start e) w)

-- the first `count` entries of the directory at an offset, one after the other
abbrev pub read_entries : LaidOut → ℕ → (Entry → Walk → Walk) → ℕ → ℕ → Walk → Walk
read_entries i start entry offset zero w = w
read_entries i start entry offset (suc count) w = entry (entry_at i start offset count) (read_entries i start entry offset count w)

-- the directory at an offset, which has so many levels; 187: it stands below the last
abbrev pub read_directory : LaidOut → ℕ → ℕ → Path → ℕ → Walk → Walk
read_directory i start zero path offset w = asked (finding i start 187 offset true ∷ []) w
read_directory i start (suc below) path offset w =
    if is_entered i start w.before offset then
    read_entries i start (read_entry i start below (read_directory i start below) path) offset (whole_count i start offset) (entered i start offset w)
    else asked (directory_tests i start w.before offset) w

-- the tree from an RVA on; 181: the file has not the root's first 16 bytes there
abbrev pub walk_from : LaidOut → ℕ → Walk
walk_from i start =
    if is_held i start 0 16 then read_directory i start 3 no_path 0 nothing
    else asked (finding i start 181 0 true ∷ []) nothing

abbrev pub walk_at : LaidOut → Option ℕ → Walk
walk_at i None = nothing
walk_at i (Some start) = walk_from i start

abbrev pub walk_of : LaidOut → Walk
walk_of i = walk_at i (start_of i)

-- the leaves of an image, in the order of the tree
abbrev pub leaves_of : LaidOut → List Leaf
leaves_of i = (walk_of i).leaves

-- findings 181 to 189
abbrev pub resource_tests : LaidOut → List Test
resource_tests i = (walk_of i).tests
