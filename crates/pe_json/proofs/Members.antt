-- What a refused image shows of its file.
use Rattle.std.proofs.Common.{◌≡◌, ℕ, List, [], ◌++◌, None, Some, refl, sym, ap, false, append-nil}
use Rattle.std.specs.Prelude.{Option, is_none}
use Rattle.pe_view.specs.Faults.{first_standing}
use Rattle.coff_read.specs.ImageNames.{image_strings}
use Rattle.pe_head.specs.Head.{head_of}
use Rattle.pe_head.specs.declared.headers.Headers.{Headers}
use Rattle.pe_layout.specs.Image.{LaidOut, image_of_file}
use Rattle.pe_layout.specs.SectionFaults.{layout_tests}
use Rattle.pe_tables.specs.ExportFaults.{export_tests}
use Rattle.pe_tables.specs.Exports.{Exports, exports_of}
use Rattle.pe_tables.specs.ImportFaults.{import_tests}
use Rattle.pe_tables.specs.Imports.{Import, imports_of}
use Rattle.pe_tables.specs.Fixups.{fixups_of}
use Rattle.pe_tables.specs.declared.fixups.Fixup.{Fixup}
use Rattle.pe_image.specs.ImageOf.{unless}
use Rattle.pe_image.specs.ImageTests.{relocation_tests}
use Rattle.pe_head.specs.HeaderFaults.{head_tests}
use Rattle.pe_json.specs.declared.beyond.Beyond.{Beyond}
use Rattle.pe_json.specs.FileLine.{accepted_image, image_members, refused_beyond}
use Rattle.pe_json.specs.ImageLine.{head_members, image_line}
use Rattle.pe_json.specs.ImageRecords.{beyond_members, own_members}
use Rattle.pe_json.specs.Refused.{exports_if, imports_if, fixups_if}
use Rattle.pe_json.proofs.NoObject.{head_none}

-- that of an image that is laid out, from its headers and its tables that have no fault
pub laid_out : (file : List ℕ) (h : Headers) (i : LaidOut) (exports : Option Exports) (imports : Option (List Import)) (fixups : Option (List Fixup))
    → h ≡ head_of file → i ≡ image_of_file 0 file → first_standing (layout_tests 0 file) ≡ None
    → exports ≡ unless (export_tests i) (exports_of i) → imports ≡ unless (import_tests i) (imports_of i) → fixups ≡ unless (relocation_tests i) (fixups_of i)
    → head_members (image_strings file h) h ++ (exports_if exports ++ (imports_if imports ++ fixups_if fixups)) ≡ image_members file
laid_out file h i exports imports fixups heads image sound is_exports is_imports is_fixups =
    rw (is_exports, is_imports, is_fixups, image, heads, head_none file sound, sound) refl

-- and what its file says of itself
pub own_laid_out : (beyond : Option Beyond) (file : List ℕ) (h : Headers) (imports : Option (List Import)) → h ≡ head_of file → first_standing (layout_tests 0 file) ≡ None
    → imports ≡ unless (import_tests (image_of_file 0 file)) (imports_of (image_of_file 0 file)) → own_members beyond file h imports ≡ refused_beyond beyond file
own_laid_out None file h imports heads sound is = refl
own_laid_out (Some b) file h imports heads sound is = rw (heads, is, head_none file sound, sound) refl

-- that of one that is not, of which only the headers are shown
pub own_unlaid : (beyond : Option Beyond) (file : List ℕ) (h : Headers) → h ≡ head_of file → first_standing (head_tests 0 file) ≡ None → is_none (first_standing (layout_tests 0 file)) ≡ false
    → head_members (image_strings file h) h ++ own_members beyond file h None ≡ image_members file ++ refused_beyond beyond file
own_unlaid None file h heads none some = rw (heads, none, some) (ap (λ (ms : List (List ℕ)). ms ++ []) (sym (append-nil (head_members (image_strings file (head_of file)) (head_of file)))))
own_unlaid (Some b) file h heads none some = rw (heads, none, some) (ap (λ (ms : List (List ℕ)). ms ++ own_members (Some b) file (head_of file) None) (sym (append-nil (head_members (image_strings file (head_of file)) (head_of file)))))

-- that of one whose headers have a fault
pub own_none : (beyond : Option Beyond) (file : List ℕ) → is_none (first_standing (head_tests 0 file)) ≡ false → image_members file ++ refused_beyond beyond file ≡ []
own_none None file some = rw some refl
own_none (Some b) file some = rw some refl

-- the line of an image without a fault, with what is told beyond its profile
pub accepted_beyond : (beyond : Option Beyond) (b : Beyond) (name file bytes : List ℕ) (i l : LaidOut) (strings : Option (List ℕ)) (h own : Headers) (exports : Exports) (imports : List Import) (fixups : List Fixup)
    → beyond ≡ Some b → bytes ≡ file → l ≡ i → strings ≡ image_strings file h → h ≡ head_of file → own ≡ head_of file → exports ≡ exports_of i → imports ≡ imports_of i → fixups ≡ fixups_of i
    → image_line name strings h exports imports fixups (beyond_members b bytes own l) ≡ accepted_image beyond name file i
accepted_beyond beyond b name file bytes i l strings h own exports imports fixups is_beyond is_bytes is_laid is_strings is_h is_own is_exports is_imports is_fixups =
    rw (is_beyond, is_bytes, is_laid, is_strings, is_h, is_own, is_exports, is_imports, is_fixups) refl
