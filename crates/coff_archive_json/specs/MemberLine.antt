-- The line of a member: its header, its first fault if it has one, and what it holds.
use Rattle.std.specs.Prelude.{ℕ, Bool, List, [], ◌∷◌, ◌++◌, codes, length, Option, None, Some, option_map, is_none, if◌then◌else◌}
use Rattle.std.specs.Option.{option_or}
use Rattle.pe_view.specs.declared.fault.Fault.{Fault}
use Rattle.pe_view.specs.Faults.{Test, first_standing}
use Rattle.coff_archive.specs.Imports.{is_import, import_tests, import_of}
use Rattle.coff_archive.specs.Members.{Member, at_offset, is_special}
use Rattle.coff_archive.specs.Names.{name_of, contents_of}
use Rattle.coff_lines.specs.EitherReport.{either_tests}
use Rattle.coff_read.specs.EitherObject.{form_in}
use Rattle.pe_detail.specs.declared.detail.Detail.{Detail}
use Rattle.pe_detail.specs.FaultDetail.{fault_detail}
use Rattle.pe_json.specs.CertificateRows.{name_if}
use Rattle.pe_json.specs.JsonText.{number}
use Rattle.pe_json.specs.ObjectLine.{object_members}
use Rattle.coff_archive_json.specs.ImportMembers.{import_members}
use Rattle.coff_archive_json.specs.Line.{line, alone, verdict}

-- its name if it has one, where its header stands, and its Size
unfoldable pub header_members : List ℕ → Member → List (List ℕ)
header_members names m = name_if (codes "member") (name_of names m) ++ (number (codes "offset") m.offset ∷ number (codes "size") m.size ∷ [])

-- 304: its name field leads to no text
abbrev pub name_tests : List ℕ → Member → List Test
name_tests names m = at_offset 304 m.offset (is_none (name_of names m)) ∷ []

-- ---- what it holds
-- the first finding of a short import object
abbrev pub import_refusal : ℕ → List ℕ → Option (Fault × Option Detail)
import_refusal at bytes = option_map alone (first_standing (import_tests at bytes))

-- the numbers that the rule of an object's fault compares
unfoldable pub numbers_of : List ℕ → Fault → Option Detail
numbers_of bytes fault = fault_detail bytes (length bytes) fault

-- the first fault of an object, whose place counts from its beginning, with these numbers
abbrev pub object_refusal : List ℕ → Option (Fault × Option Detail)
object_refusal bytes = option_map (λ fault. (fault, numbers_of bytes fault)) (first_standing (either_tests bytes))

-- the first fault of what it holds; the archive's own members are not read, nor are those of a thin archive
unfoldable pub own_refusal : Bool → Member → Option (Fault × Option Detail)
own_refusal thin m =
    if is_special m.field then None
    else (if thin then None
    else (if is_import (contents_of m) then import_refusal m.offset (contents_of m)
    else object_refusal (contents_of m)))

-- what it holds, if that has no fault
unfoldable pub held_members : Bool → Member → List (List ℕ)
held_members thin m =
    if is_special m.field then []
    else (if thin then []
    else (if is_import (contents_of m) then import_members (import_of (contents_of m))
    else object_members (form_in (contents_of m)) (contents_of m)))

abbrev pub unless_refused : Option (Fault × Option Detail) → List (List ℕ) → List (List ℕ)
unless_refused None members = members
unless_refused (Some refusal) members = []

-- the first fault, that of the name before that of what it holds; and what it holds, if that has none
abbrev pub told : Option (Fault × Option Detail) → Option (Fault × Option Detail) → List (List ℕ) → List (List ℕ)
told of_name own members = verdict (option_or of_name own) ++ unless_refused own members

-- ---- the line
unfoldable pub member_line : List ℕ → Bool → List ℕ → Member → List ℕ
member_line archive thin names m = line archive
    (header_members names m ++ told (option_map alone (first_standing (name_tests names m))) (own_refusal thin m) (held_members thin m))
