-- The line of a file: what `json` tells of an object or an image without a fault, or of a refused file. `beyond` asks for what is told of
-- an image beyond its profile.
use Rattle.std.specs.Prelude.{ℕ, List, [], ◌++◌, length, Option, None, Some, is_none, if◌then◌else◌}
use Rattle.pe_view.specs.Faults.{first_standing}
use Rattle.pe_head.specs.Head.{head_of}
use Rattle.pe_head.specs.HeaderFaults.{head_tests}
use Rattle.pe_layout.specs.Image.{LaidOut, image_of_file}
use Rattle.pe_layout.specs.SectionFaults.{layout_tests}
use Rattle.pe_tables.specs.ExportFaults.{export_tests}
use Rattle.pe_tables.specs.Exports.{exports_of}
use Rattle.pe_tables.specs.ImportFaults.{import_tests}
use Rattle.pe_tables.specs.Imports.{Import, imports_of}
use Rattle.pe_tables.specs.Fixups.{fixups_of}
use Rattle.pe_image.specs.ImageOf.{unless}
use Rattle.pe_image.specs.ImageTests.{relocation_tests}
use Rattle.coff_read.specs.ImageNames.{image_strings}
use Rattle.pe_text.specs.FileKind.{kind_of, is_object}
use Rattle.pe_text.specs.declared.outcome.Outcome.{Outcome}
use Rattle.pe_text.specs.declared.outcome.Outcome.TheVariants.{Done, Refused}
use Rattle.pe_json.specs.ImageRecords.{members_beyond, own_members}
use Rattle.pe_json.specs.ImageLine.{image_line, head_members}
use Rattle.pe_json.specs.declared.beyond.Beyond.{Beyond}
use Rattle.pe_json.specs.ObjectLine.{object_line}
use Rattle.pe_json.specs.Refused.{refused_line, exports_if, imports_if, fixups_if}

-- ---- a file without a fault
-- that of an image, from its headers and what they lay out
abbrev pub accepted_image : Option Beyond → List ℕ → List ℕ → LaidOut → List ℕ
accepted_image beyond name file i =
    image_line name (image_strings file (head_of file)) (head_of file) (exports_of i) (imports_of i) (fixups_of i) (members_beyond beyond file (head_of file) i)

-- the same for a file
abbrev pub accepted_line : Option Beyond → List ℕ → List ℕ → List ℕ
accepted_line beyond name file = if is_object (kind_of file) then object_line name file else accepted_image beyond name file (image_of_file 0 file)

-- ---- a refused file
-- each table of an image that has no fault; base relocations, if the imports have none either
abbrev pub whole_tables : LaidOut → List (List ℕ)
whole_tables i =
    exports_if (unless (export_tests i) (exports_of i))
    ++ (imports_if (unless (import_tests i) (imports_of i)) ++ fixups_if (unless (relocation_tests i) (fixups_of i)))

-- the same if the file has none of faults 1 to 15
abbrev pub laid_out_tables : List ℕ → List (List ℕ)
laid_out_tables file = if is_none (first_standing (layout_tests 0 file)) then whole_tables (image_of_file 0 file) else []

-- what of a refused image has no fault: its headers, directories and sections if the headers have none, and such tables
abbrev pub image_members : List ℕ → List (List ℕ)
image_members file =
    if is_none (first_standing (head_tests 0 file)) then head_members (image_strings file (head_of file)) (head_of file) ++ laid_out_tables file else []

-- its imports, if it is laid out and they have no fault
abbrev pub refused_imports : List ℕ → Option (List Import)
refused_imports file = if is_none (first_standing (layout_tests 0 file)) then unless (import_tests (image_of_file 0 file)) (imports_of (image_of_file 0 file)) else None

-- what its file says of itself, if that is asked for and the headers have no fault
abbrev pub refused_beyond : Option Beyond → List ℕ → List (List ℕ)
refused_beyond None file = []
refused_beyond (Some b) file = if is_none (first_standing (head_tests 0 file)) then own_members (Some b) file (head_of file) (refused_imports file) else []

-- ---- a file
-- the line of an object, by the outcome: if it is refused, nothing but the fault
abbrev pub object_file_line : List ℕ → List ℕ → Outcome → List ℕ
object_file_line name file Done = object_line name file
object_file_line name file (Refused fault) = refused_line name file (length file) fault []

-- the line of an image's file of a size of which these bytes were read
abbrev pub image_file_line : Option Beyond → List ℕ → ℕ → List ℕ → Outcome → List ℕ
image_file_line beyond name size file Done = accepted_image beyond name file (image_of_file 0 file)
image_file_line beyond name size file (Refused fault) = refused_line name file size fault (image_members file ++ refused_beyond beyond file)

-- the line of a file
abbrev pub file_line : Option Beyond → List ℕ → ℕ → List ℕ → Outcome → List ℕ
file_line beyond name size file outcome = if is_object (kind_of file) then object_file_line name file outcome else image_file_line beyond name size file outcome
