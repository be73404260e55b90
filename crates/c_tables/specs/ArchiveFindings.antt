-- All findings of an archive, with those of its short import objects.
use Rattle.std.specs.Prelude.{ℕ, ◌||◌, Bool, List, [], ◌++◌, not, Result, Ok, Err, if◌then◌else◌}
use Rattle.std.specs.List.{flat_map}
use Rattle.std.specs.Option.{option_to_list}
use Rattle.pe_view.specs.declared.fault.Fault.{Fault}
use Rattle.pe_view.specs.Faults.{Test, first_standing}
use Rattle.pe_view.specs.Standing.{standing}
use Rattle.coff_archive.specs.Findings.{archive_tests}
use Rattle.coff_archive.specs.Imports.{import_tests, is_import}
use Rattle.coff_archive.specs.Members.{Member, is_special, members}
use Rattle.coff_archive.specs.Names.{contents_of}

-- of a member that holds a short import object: neither one that the archive keeps for itself nor one in another file
abbrev pub import_checks : Bool → Member → List Test
import_checks thin m = if thin || (is_special m.field || not (is_import (contents_of m))) then [] else import_tests m.offset (contents_of m)

-- the first finding of it in what a walk over the members reads
abbrev pub import_found : Bool → Result Member Fault → List Fault
import_found thin (Ok m) = option_to_list (first_standing (import_checks thin m))
import_found thin (Err fault) = []

abbrev pub import_findings : Bool → List ℕ → List Fault
import_findings thin file = flat_map (import_found thin) (members thin file)

-- findings 301 to 306, and then 331 to 333 of the members in file order
abbrev pub archive_findings_of : Bool → List ℕ → List Fault
archive_findings_of thin file = standing (archive_tests thin file) ++ import_findings thin file
