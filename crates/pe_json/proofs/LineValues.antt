-- A line is the text of a JSON object, and its line feed.
use Rattle.std.proofs.Common.{◌≡◌, ℕ, suc, Bool, true, false, List, [], ◌∷◌, ◌++◌, codes, refl, Option, None, Some, option_map}
use Rattle.std.specs.Prelude.{is_none, if◌then◌else◌, length}
use Rattle.json.specs.Json.{Members, object}
use Rattle.pe_view.specs.Faults.{first_standing}
use Rattle.pe_view.specs.declared.fault.Fault.{Fault}
use Rattle.pe_head.specs.Head.{head_of}
use Rattle.pe_head.specs.HeaderFaults.{head_tests}
use Rattle.pe_detail.specs.FaultDetail.{fault_detail}
use Rattle.pe_layout.specs.Image.{LaidOut, image_of_file}
use Rattle.pe_layout.specs.SectionFaults.{layout_tests}
use Rattle.pe_tables.specs.ExportFaults.{export_tests}
use Rattle.pe_tables.specs.Exports.{Exports, exports_of}
use Rattle.pe_tables.specs.ImportFaults.{import_tests}
use Rattle.pe_tables.specs.Imports.{Import, imports_of}
use Rattle.pe_tables.specs.Fixups.{fixups_of}
use Rattle.pe_tables.specs.declared.fixups.Fixup.{Fixup}
use Rattle.pe_image.specs.ImageOf.{unless}
use Rattle.pe_image.specs.ImageTests.{relocation_tests}
use Rattle.coff_read.specs.ImageNames.{image_strings}
use Rattle.pe_text.specs.FileKind.{kind_name, kind_of, is_object, other_kind}
use Rattle.pe_text.specs.declared.file_beginning.FileKind.{FileKind}
use Rattle.pe_text.specs.declared.file_beginning.FileKind.TheVariants as kind
use Rattle.pe_text.specs.declared.outcome.Outcome.{Outcome}
use Rattle.pe_text.specs.declared.outcome.Outcome.TheVariants.{Done, Refused}
use Rattle.pe_json.specs.Value.{IsTextOf}
use Rattle.pe_json.specs.JsonText as text
use Rattle.pe_json.specs.Line.{first_members, line}
use Rattle.pe_json.specs.ImageLine.{head_members, exports_members, imports_members, fixups_members}
use Rattle.coff_read.specs.EitherObject.{form_in}
use Rattle.pe_json.specs.ObjectLine.{object_members}
use Rattle.pe_json.specs.Refused.{fault_members, exports_if, imports_if, fixups_if, kind_of_refused, refused_line}
use Rattle.pe_json.specs.ImageRecords.{members_beyond, own_members}
use Rattle.pe_json.specs.declared.beyond.Beyond.{Beyond}
use Rattle.pe_json.specs.FileLine.{whole_tables, laid_out_tables, image_members, refused_imports, refused_beyond, object_file_line, image_file_line, file_line}
use Rattle.pe_json.proofs.Printed.{AreMembers, ascii, is_boolean, object_text}
use Rattle.pe_json.proofs.JsonMembers.{IfUtf8, is_member, number_member, name_member, members_then, text_members}
use Rattle.pe_json.proofs.FaultValues.{are_fault_members}
use Rattle.pe_json.proofs.ImageValues.{are_head_members, are_exports_members, are_imports_members, are_fixups_members}
use Rattle.pe_json.proofs.ObjectValues.{are_object_members}
use Rattle.pe_json.proofs.RecordValues.{are_members_beyond, are_own_members}

-- ---- what of a refused image has no fault
are_exports_if : (limit : ℕ) (exports : Option Exports) → AreMembers (suc (suc (suc limit))) (exports_if exports)
unfolding exports_if
are_exports_if limit None = tt
are_exports_if limit (Some exports) = are_exports_members limit exports

are_imports_if : (limit : ℕ) (imports : Option (List Import)) → AreMembers (suc (suc limit)) (imports_if imports)
unfolding imports_if
are_imports_if limit None = tt
are_imports_if limit (Some imports) = are_imports_members limit imports

are_fixups_if : (limit : ℕ) (fixups : Option (List Fixup)) → AreMembers (suc (suc limit)) (fixups_if fixups)
unfolding fixups_if
are_fixups_if limit None = tt
are_fixups_if limit (Some fixups) = are_fixups_members limit fixups

are_whole_tables : (limit : ℕ) (i : LaidOut) → AreMembers (suc (suc (suc limit))) (whole_tables i)
are_whole_tables limit i =
    members_then _ (exports_if (unless (export_tests i) (exports_of i))) _ (are_exports_if limit (unless (export_tests i) (exports_of i)))
    (members_then _ (imports_if (unless (import_tests i) (imports_of i))) (fixups_if (unless (relocation_tests i) (fixups_of i)))
    (are_imports_if (suc limit) (unless (import_tests i) (imports_of i))) (are_fixups_if (suc limit) (unless (relocation_tests i) (fixups_of i))))

are_if : (limit : ℕ) (b : Bool) (members : List (List ℕ)) → AreMembers limit members → AreMembers limit (if b then members else [])
are_if limit true members h = h
are_if limit false members h = tt

are_laid_out : (limit : ℕ) (file : List ℕ) → AreMembers (suc (suc (suc limit))) (laid_out_tables file)
are_laid_out limit file = are_if _ (is_none (first_standing (layout_tests 0 file))) (whole_tables (image_of_file 0 file)) (are_whole_tables limit (image_of_file 0 file))

are_image_members : (limit : ℕ) (file : List ℕ) → AreMembers (suc (suc (suc limit))) (image_members file)
are_image_members limit file =
    are_if _ (is_none (first_standing (head_tests 0 file))) (head_members (image_strings file (head_of file)) (head_of file) ++ laid_out_tables file)
    (members_then _ (head_members (image_strings file (head_of file)) (head_of file)) (laid_out_tables file) (are_head_members limit (image_strings file (head_of file)) (head_of file)) (are_laid_out limit file))

are_refused_beyond : (limit : ℕ) (beyond : Option Beyond) (file : List ℕ) → AreMembers (suc (suc (suc (suc limit)))) (refused_beyond beyond file)
are_refused_beyond limit None file = tt
are_refused_beyond limit (Some b) file =
    are_if _ (is_none (first_standing (head_tests 0 file))) (own_members (Some b) file (head_of file) (refused_imports file)) (are_own_members limit b file (head_of file) (refused_imports file))

-- ---- lines
-- a text is that of an object, and a line feed
abbrev IsLine : List ℕ → Type 0
IsLine t = (members : Members) × (own : List ℕ) × (t ≡ own ++ codes "\n") × IsTextOf (object members) own

are_first : (limit : ℕ) (name : List ℕ) (accepted : Bool) → AreMembers limit (first_members name accepted)
unfolding first_members
are_first limit name accepted = (name_member _ _ _ refl refl, (is_member _ _ _ refl (is_boolean _ accepted), tt))

is_line : (name : List ℕ) (accepted : Bool) (members : List (List ℕ)) → AreMembers 127 members → IsLine (line name accepted members)
is_line name accepted members h =
    let all = text.number (codes "schema") 1 ∷ (first_members name accepted ++ members) in
    let whole = object_text all (number_member _ _ _ refl, members_then _ (first_members name accepted) members (are_first _ name accepted) h) in
    (whole.0, text.object all, refl, whole.1)

-- what a refused file is instead
kind_ascii : (kind : Option FileKind) → IfUtf8 (option_map kind_name kind)
kind_ascii None = tt
kind_ascii (Some kind.Image) = ascii _ refl
kind_ascii (Some kind.Elf) = ascii _ refl
kind_ascii (Some kind.Archive) = ascii _ refl
kind_ascii (Some kind.ThinArchive) = ascii _ refl
kind_ascii (Some kind.Text) = ascii _ refl
kind_ascii (Some kind.Object) = ascii _ refl
kind_ascii (Some kind.ImportObject) = ascii _ refl
kind_ascii (Some kind.BigObject) = ascii _ refl

refused_is_line : (name seen : List ℕ) (size : ℕ) (fault : Fault) (members : List (List ℕ)) → AreMembers 127 members → IsLine (refused_line name seen size fault members)
refused_is_line name seen size fault members h =
    is_line name false _
    (members_then _ _ members
    (members_then _ _ (fault_members fault (fault_detail seen size fault)) (text_members _ _ (kind_of_refused fault seen) refl (kind_ascii (other_kind fault.number seen)))
    (are_fault_members _ fault (fault_detail seen size fault)))
    h)

object_line_is : (name file : List ℕ) (outcome : Outcome) → IsLine (object_file_line name file outcome)
object_line_is name file Done = is_line name true (object_members (form_in file) file) (are_object_members (form_in file) _ file)
object_line_is name file (Refused fault) = refused_is_line name file (length file) fault [] tt

image_line_is : (beyond : Option Beyond) (name : List ℕ) (size : ℕ) (file : List ℕ) (outcome : Outcome) → IsLine (image_file_line beyond name size file outcome)
image_line_is beyond name size file Done =
    let i = image_of_file 0 file in
    is_line name true _
    (members_then _ _ (members_beyond beyond file (head_of file) i)
    (members_then _ (head_members (image_strings file (head_of file)) (head_of file)) _ (are_head_members _ (image_strings file (head_of file)) (head_of file))
    (members_then _ (exports_members (exports_of i)) _ (are_exports_members _ (exports_of i))
    (members_then _ (imports_members (imports_of i)) (fixups_members (fixups_of i)) (are_imports_members _ (imports_of i)) (are_fixups_members _ (fixups_of i)))))
    (are_members_beyond _ beyond file (head_of file) i))
image_line_is beyond name size file (Refused fault) =
    refused_is_line name file size fault (image_members file ++ refused_beyond beyond file)
    (members_then _ (image_members file) (refused_beyond beyond file) (are_image_members _ file) (are_refused_beyond _ beyond file))

pub file_line_is : (beyond : Option Beyond) (name : List ℕ) (size : ℕ) (file : List ℕ) (outcome : Outcome) → IsLine (file_line beyond name size file outcome)
file_line_is beyond name size file outcome = by (is_object (kind_of file))
  where
    by : (b : Bool) → IsLine (if b then object_file_line name file outcome else image_file_line beyond name size file outcome)
    by true = object_line_is name file outcome
    by false = image_line_is beyond name size file outcome

-- of a file that its first bytes refuse only the fault is told
pub unread_line_is : (name begin : List ℕ) (size : ℕ) (fault : Fault) → IsLine (refused_line name begin size fault [])
unread_line_is name begin size fault = refused_is_line name begin size fault [] tt
