-- The pictures of a group, which are resources of the same image, by their ids.
use Rattle.std.specs.Prelude.{ℕ, zero, suc, ◌==◌, ◌&&◌, Bool, false, List, [], ◌∷◌, ◌++◌, find, Option, Some, None, option_map, option_and_then}
use Rattle.pe_layout.specs.Image.{LaidOut}
use Rattle.pe_resources.specs.Texts.{data_of}
use Rattle.pe_resources.specs.declared.leaf.Leaf.{Leaf}
use Rattle.pe_resource_files.specs.Group.{group_count, entry_number, picture_of}
use Rattle.pe_resource_files.specs.PicturesFile.{pictures_file}
use Rattle.pe_resource_files.specs.declared.group.GroupKind.{GroupKind}
use Rattle.pe_resource_files.specs.declared.group.GroupKind.TheVariants.{Icons, Cursors}

-- the type of a group's pictures in the resource tree
abbrev pub picture_type : GroupKind → ℕ
picture_type Icons = 3
picture_type Cursors = 1

abbrev pub is_number : ℕ → Option ℕ → Bool
is_number n None = false
is_number n (Some m) = m == n

-- a leaf has this type and this id
abbrev pub is_called : ℕ → ℕ → Leaf → Bool
is_called kind id leaf = is_number kind leaf.path.kind && is_number id leaf.path.name

-- that of the first leaf with the id that the entry says
abbrev pub picture_at : LaidOut → List Leaf → GroupKind → List ℕ → ℕ → Option (ℕ × List ℕ)
picture_at i leaves kind group k =
    option_and_then (picture_of kind group k)
    (option_and_then (data_of i)
    (find (is_called (picture_type kind) (entry_number 2 group k 12)) leaves))

-- the pictures of the first entries, if all are there
abbrev pub pictures_of : LaidOut → List Leaf → GroupKind → List ℕ → ℕ → Option (List (ℕ × List ℕ))
pictures_of i leaves kind group zero = Some []
pictures_of i leaves kind group (suc k) =
    option_and_then (λ pictures. option_map (λ picture. pictures ++ picture ∷ []) (picture_at i leaves kind group k))
    (pictures_of i leaves kind group k)

-- the file of a group
abbrev pub group_file : ℕ → LaidOut → List Leaf → GroupKind → List ℕ → Option (List ℕ × List (List ℕ))
group_file most i leaves kind group =
    option_and_then (pictures_file most kind)
    (option_and_then (pictures_of i leaves kind group) (group_count group))
