-- A line of an archive is the text of a JSON object, and its line feed.
use Rattle.std.proofs.Common.{◌≡◌, ◌∙◌, ℕ, suc, Bool, true, false, List, [], ◌∷◌, ◌++◌, codes, refl, sym, ap₂, Option, None, Some, flat_map}
use Rattle.std.specs.Prelude.{◌==◌, Err, Ok, Result, if◌then◌else◌, option_map}
use Rattle.std.specs.List.{All}
use Rattle.std.specs.Option.{option_or}
use Rattle.std.proofs.lemmas.Grind.{flat_map-append}
use Rattle.std.proofs.lemmas.List.{append-nil}
use Rattle.std.proofs.lemmas.List.Elements.{All-append, All-cons, All-nil}
use Rattle.json.specs.Print.{quoted}
use Rattle.pe_view.specs.declared.fault.Fault.{Fault}
use Rattle.pe_view.specs.Faults.{first_standing}
use Rattle.pe_head.specs.Names.{name_in, machine_names}
use Rattle.coff_archive.specs.FileTests.{file_tests, is_thin_file}
use Rattle.coff_archive.specs.Front.{names_of}
use Rattle.coff_archive.specs.Imports.{Import, import_name, import_of, is_import}
use Rattle.coff_archive.specs.Members.{Member, is_special, members}
use Rattle.coff_archive.specs.Names.{contents_of, name_of}
use Rattle.coff_archive.specs.Symbols.{Symbol}
use Rattle.coff_archive.specs.declared.linker.Linker.TheVariants.{First, Second}
use Rattle.coff_lines.specs.ArchiveLines.{archive_fault, kind_name}
use Rattle.coff_read.specs.EitherObject.{form_in}
use Rattle.pe_detail.specs.declared.detail.Detail.{Detail}
use Rattle.pe_json.specs.CertificateRows.{name_if}
use Rattle.pe_json.specs.JsonText as text
use Rattle.pe_json.specs.JsonText.{number, number_if}
use Rattle.pe_json.specs.ObjectLine.{object_members}
use Rattle.pe_json.specs.Refused.{fault_members}
use Rattle.pe_json.proofs.FaultValues.{are_fault_members}
use Rattle.pe_json.proofs.ImageValues.{machines_ascii, named}
use Rattle.pe_json.proofs.JsonMembers.{IsAsciiText, is_member, members_then, name_member, number_if_members, number_member, row_values, text_members as texts_if, word_member}
use Rattle.pe_json.proofs.ObjectValues.{are_object_members}
use Rattle.pe_json.proofs.Printed.{AreMembers, IsMember, IsValue, is_boolean, items_value, members_value, object_text}
use Rattle.coff_archive_json.specs.ArchiveJson.{archive_lines, lines_unless, read_line}
use Rattle.coff_archive_json.specs.ArchiveLine.{archive_line, archive_members, format_members, symbols_of}
use Rattle.coff_archive_json.specs.ImportMembers.{import_members, import_row, imported_members, text_members, type_members}
use Rattle.coff_archive_json.specs.JsonLines.{AreJsonLines, IsJsonLine, IsObjectText}
use Rattle.coff_archive_json.specs.Line.{alone, line, refused_line, verdict}
use Rattle.coff_archive_json.specs.MemberLine.{header_members, held_members, member_line, name_tests, own_refusal, told, unless_refused}
use Rattle.coff_archive_json.specs.SymbolRows.{symbol_row, symbols_if}

-- ---- the line
is_line : (archive : List ℕ) (members : List (List ℕ)) → AreMembers 127 members → IsJsonLine (line archive members)
is_line archive members h =
    let all = number (codes "schema") 1 ∷ text.name (codes "archive") archive ∷ members in
    (text.object all, refl, object_text all (number_member _ _ _ refl, (name_member _ _ _ refl refl, h)))

are_verdict : (limit : ℕ) (refusal : Option (Fault × Option Detail)) → AreMembers (suc (suc limit)) (verdict refusal)
unfolding verdict
are_verdict limit None = (is_member _ _ _ refl (is_boolean _ true), tt)
are_verdict limit (Some refusal) = (is_member _ _ _ refl (is_boolean _ false), are_fault_members limit refusal.0 refusal.1)

refused_is_line : (archive : List ℕ) (fault : Fault) → IsJsonLine (refused_line archive fault)
refused_is_line archive fault = is_line archive (verdict (Some (alone fault))) (are_verdict _ (Some (alone fault)))

-- ---- a short import object
are_texts : (limit : ℕ) (i : Import) → AreMembers limit (text_members i)
unfolding text_members
are_texts limit i = (number_member _ _ _ refl, (name_member _ _ _ refl refl, (name_member _ _ _ refl refl, tt)))

are_imported : (limit : ℕ) (text : Option (List ℕ)) (ordinal : ℕ) → AreMembers limit (imported_members text ordinal)
unfolding imported_members
are_imported limit None ordinal = (number_member _ _ _ refl, tt)
are_imported limit (Some text) hint = (name_member _ _ _ refl refl, (number_member _ _ _ refl, tt))

kind_ascii : (kind : ℕ) → IsAsciiText (kind_name kind)
kind_ascii kind = by (kind == 0) (kind == 1) (kind == 2)
  where
    by : (a b c : Bool) → IsAsciiText (if a then codes "code" else (if b then codes "data" else (if c then codes "const" else codes "other")))
    by true b c = refl
    by false true c = refl
    by false false true = refl
    by false false false = refl

are_types : (limit : ℕ) (i : Import) → AreMembers limit (type_members i)
unfolding type_members
are_types limit i = (number_member _ _ _ refl, (word_member _ _ (kind_name i.kind) refl (kind_ascii i.kind), (number_member _ _ _ refl, tt)))

import_value : (limit : ℕ) (i : Import) → IsValue (suc limit) (import_row i)
import_value limit i =
    members_value limit _ (
      number_member _ _ _ refl,
      members_then _ _ (text_members i ++ (imported_members (import_name i) i.ordinal ++ type_members i))
          (texts_if _ _ (name_in machine_names i.machine) refl (named machine_names i.machine machines_ascii))
          (members_then _ (text_members i) (imported_members (import_name i) i.ordinal ++ type_members i) (are_texts _ i)
          (members_then _ (imported_members (import_name i) i.ordinal) (type_members i) (are_imported _ (import_name i) i.ordinal) (are_types _ i))),
    )

are_import_members : (limit : ℕ) (i : Import) → AreMembers (suc limit) (import_members i)
unfolding import_members
are_import_members limit i = (word_member _ _ (codes "import object") refl refl, (is_member _ _ _ refl (import_value limit i), tt))

-- ---- a member
are_names : (limit : ℕ) (name : Option (List ℕ)) → AreMembers limit (name_if (codes "member") name)
unfolding name_if
are_names limit None = tt
are_names limit (Some name) = (name_member _ _ _ refl refl, tt)

are_header : (limit : ℕ) (names : List ℕ) (m : Member) → AreMembers limit (header_members names m)
unfolding header_members
are_header limit names m =
    members_then _ (name_if (codes "member") (name_of names m)) (number (codes "offset") m.offset ∷ (number (codes "size") m.size ∷ [])) (are_names _ (name_of names m))
    (number_member _ _ _ refl, (number_member _ _ _ refl, tt))

are_held : (limit : ℕ) (thin : Bool) (m : Member) → AreMembers (suc (suc (suc (suc limit)))) (held_members thin m)
unfolding held_members
are_held limit thin m = by (is_special m.field) thin (is_import (contents_of m))
  where
    by : (special thin short : Bool) → AreMembers (suc (suc (suc (suc limit))))
        (if special then [] else (if thin then [] else (if short then import_members (import_of (contents_of m)) else object_members (form_in (contents_of m)) (contents_of m))))
    by true thin short = tt
    by false true short = tt
    by false false true = are_import_members _ (import_of (contents_of m))
    by false false false = are_object_members (form_in (contents_of m)) limit (contents_of m)

are_unless : (limit : ℕ) (refusal : Option (Fault × Option Detail)) (members : List (List ℕ)) → AreMembers limit members → AreMembers limit (unless_refused refusal members)
are_unless limit None members h = h
are_unless limit (Some refusal) members h = tt

are_told : (limit : ℕ) (of_name own : Option (Fault × Option Detail)) (members : List (List ℕ)) → AreMembers (suc (suc limit)) members → AreMembers (suc (suc limit)) (told of_name own members)
are_told limit of_name own members h =
    members_then _ (verdict (option_or of_name own)) (unless_refused own members) (are_verdict limit (option_or of_name own)) (are_unless _ own members h)

member_is_line : (archive : List ℕ) (thin : Bool) (names : List ℕ) (m : Member) → IsJsonLine (member_line archive thin names m)
unfolding member_line
member_is_line archive thin names m =
    let of_name = option_map alone (first_standing (name_tests names m)) in
    is_line archive _
    (members_then _ (header_members names m) (told of_name (own_refusal thin m) (held_members thin m)) (are_header _ names m)
    (are_told _ of_name (own_refusal thin m) (held_members thin m) (are_held _ thin m)))

-- what a walk over the members reads
pub read_is_line : (archive names : List ℕ) (thin : Bool) (read : Result Member Fault) → IsJsonLine (read_line archive thin names read)
read_is_line archive names thin (Ok m) = member_is_line archive thin names m
read_is_line archive names thin (Err fault) = refused_is_line archive fault

-- ---- the archive
symbol_value : (limit : ℕ) (s : Symbol) → IsValue (suc limit) (symbol_row s)
symbol_value limit s = members_value limit _ (name_member _ _ _ refl refl, number_if_members _ _ s.member refl)

are_symbols : (limit : ℕ) (key : List ℕ) (symbols : Option (List Symbol)) → IsAsciiText key → AreMembers (suc (suc limit)) (symbols_if key symbols)
unfolding symbols_if
are_symbols limit key None key_ascii = tt
are_symbols limit key (Some symbols) key_ascii = (is_member _ _ _ key_ascii (items_value (suc limit) _ (row_values (suc limit) symbol_row symbols (symbol_value limit))), tt)

are_format : (limit : ℕ) (thin : Bool) → AreMembers limit (format_members thin)
unfolding format_members
are_format limit true = (word_member _ _ (codes "thin archive") refl refl, tt)
are_format limit false = (word_member _ _ (codes "archive") refl refl, tt)

are_archive : (limit : ℕ) (thin : Bool) (file : List ℕ) → AreMembers (suc (suc limit)) (archive_members thin file)
are_archive limit thin file =
    members_then _ (format_members thin) _ (are_format _ thin)
    (members_then _ (symbols_if (codes "first_linker_member") (symbols_of First thin file)) (symbols_if (codes "second_linker_member") (symbols_of Second thin file))
    (are_symbols limit _ (symbols_of First thin file) refl) (are_symbols limit _ (symbols_of Second thin file) refl))

pub archive_is_line : (archive file : List ℕ) (thin : Bool) (fault : Option Fault) → IsJsonLine (archive_line archive thin file fault)
archive_is_line archive file thin fault =
    is_line archive _ (members_then _ (verdict (option_map alone fault)) (archive_members thin file) (are_verdict _ (option_map alone fault)) (are_archive _ thin file))

-- ---- all lines
one_line : (t : List ℕ) → IsJsonLine t → AreJsonLines t
one_line t h = (h.0 ∷ [], h.1 ∙ sym (append-nil (h.0 ++ codes "\n")), All-cons IsObjectText h.0 [] h.2 (All-nil IsObjectText))

lines_then : (t u : List ℕ) → AreJsonLines t → AreJsonLines u → AreJsonLines (t ++ u)
lines_then t u h k =
    (h.0 ++ k.0, ap₂ (λ (xs ys : List ℕ). xs ++ ys) h.1 k.1 ∙ sym (flat_map-append (λ (text : List ℕ). text ++ codes "\n") h.0 k.0), All-append IsObjectText h.0 k.0 h.2 k.2)

row_lines : {Row : Type 0} (row : Row → List ℕ) (rows : List Row) → ((r : Row) → IsJsonLine (row r)) → AreJsonLines (flat_map row rows)
row_lines row [] each = ([], refl, All-nil IsObjectText)
row_lines row (r ∷ rows) each = lines_then (row r) (flat_map row rows) (one_line (row r) (each r)) (row_lines row rows each)

are_archive_lines : (archive : List ℕ) (thin : Bool) (file : List ℕ) → AreJsonLines (archive_lines archive thin file)
unfolding archive_lines
are_archive_lines archive thin file =
    lines_then _ (archive_line archive thin file (archive_fault thin file))
    (row_lines (read_line archive thin (names_of thin file)) (members thin file) (read_is_line archive (names_of thin file) thin))
    (one_line _ (archive_is_line archive file thin (archive_fault thin file)))

are_lines_unless : (archive lines : List ℕ) (fault : Option Fault) → AreJsonLines lines → AreJsonLines (lines_unless archive lines fault)
are_lines_unless archive lines None h = h
are_lines_unless archive lines (Some fault) h = one_line _ (refused_is_line archive fault)

-- what is written of a file
pub are_lines : (archive file : List ℕ) → AreJsonLines (lines_unless archive (archive_lines archive (is_thin_file file) file) (first_standing (file_tests file)))
are_lines archive file = are_lines_unless archive (archive_lines archive (is_thin_file file) file) (first_standing (file_tests file)) (are_archive_lines archive (is_thin_file file) file)
