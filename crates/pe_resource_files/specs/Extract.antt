-- The file that a resource is written as.
use Rattle.std.specs.Prelude.{◌≡◌, ℕ, ◌-◌, ◌^◌, min, List, [], ◌∷◌, length, Option, None, Some, option_map, find, if◌then◌else◌}
use Rattle.pe_view.specs.Faults.{first_standing}
use Rattle.pe_layout.specs.Image.{LaidOut, image_of_file}
use Rattle.pe_layout.specs.SectionFaults.{layout_tests}
use Rattle.pe_resources.specs.Texts.{data_of}
use Rattle.pe_resources.specs.Walk.{leaves_of}
use Rattle.pe_resources.specs.declared.leaf.Leaf.{Leaf}
use Rattle.pe_resource_files.specs.Bitmap.{bitmap_file}
use Rattle.pe_resource_files.specs.File.{pieces_of}
use Rattle.pe_resource_files.specs.Pictures.{is_number, group_file}
use Rattle.pe_resource_files.specs.Wanted.{is_wanted}
use Rattle.pe_resource_files.specs.declared.group.GroupKind.TheVariants.{Icons, Cursors}
use Rattle.pe_resource_files.specs.declared.resource.Form.{Form}
use Rattle.pe_resource_files.specs.declared.resource.Form.TheVariants.{File, Raw}
use Rattle.pe_resource_files.specs.declared.resource.Extracted.{Extracted}
use Rattle.pe_resource_files.specs.declared.resource.Extracted.TheVariants.{Found, Missing, NotHeld, Damaged, Refused}
use Rattle.pe_resource_files.specs.declared.wanted.Wanted.{Wanted}

-- as it stands in the image
abbrev pub raw_file : List ℕ → List ℕ × List (List ℕ)
raw_file bytes = ([], bytes ∷ [])

-- as programs read it, by its type: a bitmap, a group of cursors, one of icons; others as they stand
abbrev pub typed_file : ℕ → LaidOut → List Leaf → Option ℕ → List ℕ → Option (List ℕ × List (List ℕ))
typed_file most i leaves kind bytes =
    if is_number 2 kind then bitmap_file bytes
    else if is_number 12 kind then group_file most i leaves Cursors bytes
    else if is_number 14 kind then group_file most i leaves Icons bytes
    else Some (raw_file bytes)

abbrev pub file_of : Form → ℕ → LaidOut → List Leaf → Leaf → List ℕ → Option (List ℕ × List (List ℕ))
file_of Raw most i leaves leaf bytes = Some (raw_file bytes)
file_of File most i leaves leaf bytes = typed_file most i leaves leaf.path.kind bytes

-- The file of the first leaf that is wanted: whether there is one, the file holds its data, and it can be written so. Its pictures
-- have no more bytes than the image's file.
abbrev pub wanted_file : Form → ℕ → LaidOut → Wanted → Option (Option (Option (List ℕ × List (List ℕ))))
wanted_file form most i wanted =
    option_map (λ leaf. option_map (file_of form most i (leaves_of i) leaf) (data_of i leaf)) (find (is_wanted i wanted) (leaves_of i))

-- what is told of a file without faults 1 to 15
abbrev pub told : {A : Type 0} → Extracted A → Option (Option (Option (List ℕ × List (List ℕ)))) → Type 0
told (Found file) wanted = wanted ≡ Some (Some (Some (pieces_of file)))
told Missing wanted = wanted ≡ None
told NotHeld wanted = wanted ≡ Some None
told Damaged wanted = wanted ≡ Some (Some None)
told (Refused fault) wanted = ⊥

abbrev pub IsExtract : {A : Type 0} → Form → Wanted → List ℕ → Extracted A → Type 0
IsExtract form wanted file (Refused fault) = first_standing (layout_tests 0 file) ≡ Some fault
IsExtract form wanted file extracted = (first_standing (layout_tests 0 file) ≡ None) × told extracted (wanted_file form (min (length file) (2 ^ 32 - 1)) (image_of_file 0 file) wanted)
