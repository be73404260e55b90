-- A member of an archive that is asked for by its name.
use Rattle.std.specs.Prelude.{ℕ, ◌&&◌, Bool, not, List, Option, None, Some, Result, Ok, Err, if◌then◌else◌}
use Rattle.pe_view.specs.declared.fault.Fault.{Fault}
use Rattle.pe_view.specs.Faults.{first_standing}
use Rattle.coff_archive.specs.FileTests.{file_tests, is_thin_file}
use Rattle.coff_archive.specs.Front.{names_of}
use Rattle.coff_archive.specs.Members.{Member, is_special, members}
use Rattle.coff_archive.specs.Named.{named_at}
use Rattle.coff_archive.specs.Names.{contents_of}
use Rattle.coff_lines.specs.declared.member_file.MemberFile.{MemberFile}
use Rattle.coff_lines.specs.declared.member_file.MemberFile.TheVariants.{Found, Missing, Elsewhere, Refused}

-- what a member holds, unless it is a file of its own
abbrev pub held_contents : Bool → Member → Option (List ℕ)
held_contents thin m = if thin && not (is_special m.field) then None else Some (contents_of m)

abbrev pub read_contents : Bool → Option (Result Member Fault) → Option (Result (Option (List ℕ)) Fault)
read_contents thin None = None
read_contents thin (Some (Ok m)) = Some (Ok (held_contents thin m))
read_contents thin (Some (Err fault)) = Some (Err fault)

-- member `index` of those with this name, or else why the walk over the members ends before it
abbrev pub member_in : Bool → List ℕ → List ℕ → ℕ → Option (Result (Option (List ℕ)) Fault)
member_in thin file name index = read_contents thin (named_at (names_of thin file) name index (members thin file))

-- of a file that is refused as a whole, by that fault
abbrev pub unless_refused : Option Fault → Option (Result (Option (List ℕ)) Fault) → Option (Result (Option (List ℕ)) Fault)
unless_refused None found = found
unless_refused (Some fault) found = Some (Err fault)

abbrev pub member_file : List ℕ → List ℕ → ℕ → Option (Result (Option (List ℕ)) Fault)
member_file file name index = unless_refused (first_standing (file_tests file)) (member_in (is_thin_file file) file name index)

-- what the code tells of it
abbrev pub told : MemberFile → Option (Result (Option (List ℕ)) Fault)
told (Found bytes) = Some (Ok (Some bytes.now))
told Elsewhere = Some (Ok None)
told (Refused fault) = Some (Err fault)
told Missing = None
