-- The dump of an archive: a line for each member, and under it what `dump_either_object` writes of an object, or the line of a short
-- import object.
use Rattle.std.specs.Prelude.{◌≡◌, ℕ, ◌==◌, Bool, true, List, [], ◌∷◌, ◌++◌, Option, None, Some, Result, Ok, Err, codes, decimal, is_none, not, if◌then◌else◌}
use Rattle.std.specs.List.{flat_map}
use Rattle.std.specs.Option.{option_or}
use Rattle.pe_view.specs.declared.fault.Fault.{Fault}
use Rattle.pe_view.specs.Faults.{Test, first_standing}
use Rattle.coff_archive.specs.FileTests.{file_tests, is_thin_file}
use Rattle.coff_archive.specs.Front.{names_of}
use Rattle.coff_archive.specs.Imports.{Import, is_import, import_tests, import_of, import_name}
use Rattle.coff_archive.specs.Members.{Member, at_offset, is_special, members}
use Rattle.coff_archive.specs.Names.{name_of, contents_of}
use Rattle.pe_head.specs.Names.{name_in, machine_names}
use Rattle.pe_text.specs.declared.outcome.Outcome.{Outcome}
use Rattle.pe_text.specs.declared.outcome.Outcome.TheVariants.{Done, Refused}
use Rattle.pe_text.specs.FaultLine.{fault_line}
use Rattle.pe_text.specs.Part.{joined, name_text}
use Rattle.pe_text.specs.Text.{hex, quoted}
use Rattle.coff_lines.specs.EitherReport.{either_tests, either_text}

-- the lines, or in their place the line of a fault
abbrev pub lines_or : List ℕ → Option Fault → List ℕ
lines_or lines None = lines
lines_or lines (Some fault) = fault_line fault

-- a fault's line, if there is one
abbrev pub line_of : Option Fault → List ℕ
line_of fault = lines_or [] fault

-- the name of a member, or that it has none
abbrev pub name_words : Option (List ℕ) → List ℕ
name_words None = codes "unnamed"
name_words (Some name) = quoted name

unfoldable pub member_line : List ℕ → Member → List ℕ
member_line names m = joined
    (codes "member " ∷ name_words (name_of names m) ∷ codes " offset 0x" ∷ hex 8 m.offset ∷ codes " size " ∷ decimal m.size ∷ codes "\n" ∷ [])

-- the name that is imported and its hint, or the ordinal
abbrev pub imported_words : Option (List ℕ) → ℕ → List ℕ
imported_words None ordinal = codes " ordinal " ++ decimal ordinal
imported_words (Some name) ordinal = joined (codes " name " ∷ quoted name ∷ codes " hint " ∷ decimal ordinal ∷ [])

-- what is imported
abbrev pub kind_name : ℕ → List ℕ
kind_name kind = if kind == 0 then codes "code" else (if kind == 1 then codes "data" else (if kind == 2 then codes "const" else codes "other"))

unfoldable pub import_line : Import → List ℕ
import_line i = joined
    (codes "import " ∷ quoted i.symbol ∷ codes " module " ∷ quoted i.«module» ∷ imported_words (import_name i) i.ordinal
    ∷ codes " type " ∷ decimal i.kind ∷ codes " " ∷ kind_name i.kind ∷ codes " machine 0x" ∷ hex 4 i.machine ∷ name_text (name_in machine_names i.machine) ∷ codes "\n" ∷ [])

-- the object in these bytes has a fault
abbrev pub is_refused : List ℕ → Bool
is_refused bytes = not (is_none (first_standing (either_tests bytes)))

-- why what a member holds is refused: an import object by its findings, an object because it has a fault. The archive's own members
-- and those of a thin archive are not read.
unfoldable pub contents_tests : Bool → Member → List Test
contents_tests thin m =
    if is_special m.field then []
    else (if thin then []
    else (if is_import (contents_of m) then import_tests m.offset (contents_of m)
    else at_offset 307 m.offset (is_refused (contents_of m)) ∷ []))

-- what a member holds: the line of an import object, or an object's dump; or the line of the first fault
unfoldable pub contents_text : Bool → Member → List ℕ
contents_text thin m =
    if is_special m.field then []
    else (if thin then []
    else (if is_import (contents_of m) then lines_or (import_line (import_of (contents_of m))) (first_standing (import_tests m.offset (contents_of m)))
    else lines_or (either_text (contents_of m)) (first_standing (either_tests (contents_of m)))))

-- of what a walk over the members reads
abbrev pub read_tests : Bool → List ℕ → Result Member Fault → List Test
read_tests thin names (Ok m) = at_offset 304 m.offset (is_none (name_of names m)) ∷ contents_tests thin m
read_tests thin names (Err fault) = record { stands = true; fault = fault } ∷ []

abbrev pub read_text : Bool → List ℕ → Result Member Fault → List ℕ
read_text thin names (Ok m) =
    member_line names m
    ++ line_of (first_standing (at_offset 304 m.offset (is_none (name_of names m)) ∷ []))
    ++ contents_text thin m
read_text thin names (Err fault) = fault_line fault

abbrev pub kind_line : Bool → List ℕ
kind_line thin = if thin then codes "thin archive\n" else codes "archive\n"

unfoldable pub archive_lines : Bool → List ℕ → List ℕ
archive_lines thin file = kind_line thin ++ flat_map (read_text thin (names_of thin file)) (members thin file) ++ codes "end\n"

-- the first fault of an archive's members, in file order
unfoldable pub archive_fault : Bool → List ℕ → Option Fault
archive_fault thin file = first_standing (flat_map (read_tests thin (names_of thin file)) (members thin file))

abbrev pub outcome_by : Option Fault → Outcome
outcome_by None = Done
outcome_by (Some fault) = Refused fault

-- what `dump_archive` writes for a file, and what it answers
abbrev pub IsArchiveText : List ℕ → Outcome → List ℕ → Type 0
IsArchiveText file outcome text =
    (outcome ≡ outcome_by (option_or (first_standing (file_tests file)) (archive_fault (is_thin_file file) file)))
    × (text ≡ lines_or (archive_lines (is_thin_file file) file) (first_standing (file_tests file)))
