-- The lines of images with the same headers, tables and names of sections.
use Rattle.std.proofs.Common.{◌≡◌, ◌∙◌, ℕ, ◌+◌, true, List, [], ◌∷◌, ◌++◌, map, codes, refl, sym, ap}
use Rattle.std.specs.Prelude.{Option, None, if◌then◌else◌}
use Rattle.coff_read.specs.ImageNames.{section_name, image_strings}
use Rattle.json.specs.Print.{quoted}
use Rattle.pe_head.specs.Head.{head_of}
use Rattle.pe_head.specs.declared.headers.Headers.{Headers}
use Rattle.pe_head.specs.declared.section.SectionHeader.{SectionHeader}
use Rattle.pe_layout.specs.Image.{LaidOut, image_of_file}
use Rattle.pe_tables.specs.Exports.{Exports, exports_of}
use Rattle.pe_tables.specs.Imports.{Import, imports_of}
use Rattle.pe_tables.specs.Fixups.{fixups_of}
use Rattle.pe_tables.specs.declared.fixups.Fixup.{Fixup}
use Rattle.pe_text.specs.FileKind.{is_object}
use Rattle.pe_reach.specs.Views.{LookAlike}
use Rattle.pe_json.specs.FileLine.{accepted_image, accepted_line}
use Rattle.pe_json.specs.Headers.{headers_object, directories_list}
use Rattle.pe_json.specs.ImageLine.{format_name, head_members, exports_members, imports_members, fixups_members, image_line}
use Rattle.pe_json.specs.JsonText.{member, object, list, number, numbered_rows}
use Rattle.pe_json.specs.Line.{line}
use Rattle.pe_json.specs.ObjectLine.{object_line}
use Rattle.pe_json.specs.Sections.{section_members, section_row}

head : List (List ℕ) → List ℕ
head [] = []
head (x ∷ xs) = x

rest : List (List ℕ) → List (List ℕ)
rest [] = []
rest (x ∷ xs) = xs

-- the names of sections in a string table, or in none
abbrev names_by : Option (List ℕ) → List SectionHeader → List (List ℕ)
names_by strings sections = map (λ section. section_name strings section.name) sections

same_rows : (strings others : Option (List ℕ)) (sections : List SectionHeader) (n : ℕ) → names_by strings sections ≡ names_by others sections
    → numbered_rows (section_row strings) n sections ≡ numbered_rows (section_row others) n sections
unfolding head rest
same_rows strings others [] n names = refl
same_rows strings others (s ∷ sections) n names = λ i.
    object (number (codes "index") n ∷ section_members (ap head names i) s) ∷ same_rows strings others sections (n + 1) (ap rest names) i

-- the members that headers give
pub same_head : (strings others : Option (List ℕ)) (h : Headers) → names_by strings h.sections.items ≡ names_by others h.sections.items → head_members strings h ≡ head_members others h
unfolding head_members
same_head strings others h names = λ i.
    member (codes "format") (quoted (format_name h.magic))
    ∷ number (codes "pe_offset") h.pe_offset
    ∷ member (codes "headers") (headers_object h)
    ∷ member (codes "directories") (directories_list h.directories.items)
    ∷ member (codes "sections") (list (same_rows strings others h.sections.items 0 names i)) ∷ []

-- the lines of images whose sections have the same names
pub same_line : (name : List ℕ) (strings others : Option (List ℕ)) (h : Headers) (exports : Exports) (imports : List Import) (fixups : List Fixup) (records : List (List ℕ))
    → names_by strings h.sections.items ≡ names_by others h.sections.items → image_line name strings h exports imports fixups records ≡ image_line name others h exports imports fixups records
same_line name strings others h exports imports fixups records names =
    ap (λ (members : List (List ℕ)). line name true ((members ++ (exports_members exports ++ (imports_members imports ++ fixups_members fixups))) ++ records)) (same_head strings others h names)

same_by : (name : List ℕ) (strings others : Option (List ℕ)) (h k : Headers) (i j : LaidOut) → h ≡ k → i ≡ j → names_by strings h.sections.items ≡ names_by others k.sections.items
    → image_line name strings h (exports_of i) (imports_of i) (fixups_of i) []
    ≡ image_line name others k (exports_of j) (imports_of j) (fixups_of j) []
same_by name strings others h k i j heads images names =
    same_line name strings others h (exports_of i) (imports_of i) (fixups_of i) [] (names ∙ ap (λ (x : Headers). names_by others x.sections.items) (sym heads))
    ∙ (λ n. image_line name others (heads n) (exports_of (images n)) (imports_of (images n)) (fixups_of (images n)) [])

-- files that look alike have the same line if they have no fault and nothing is told beyond their profile
pub alike_lines : (name f g : List ℕ) → LookAlike f g → accepted_line None name f ≡ accepted_line None name g
alike_lines name f g look =
    ap (λ kind. if is_object kind then object_line name f else accepted_image None name f (image_of_file 0 f)) look.kind_f
    ∙ same_by name (image_strings f (head_of f)) (image_strings g (head_of g)) (head_of f) (head_of g) (image_of_file 0 f) (image_of_file 0 g) look.answers.headers (look.answers.image 0) look.names
    ∙ sym (ap (λ kind. if is_object kind then object_line name g else accepted_image None name g (image_of_file 0 g)) look.kind_g)
