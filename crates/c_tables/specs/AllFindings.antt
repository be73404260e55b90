-- All findings of an image's file: those of the tables beyond the profile, and those on what the file says of itself.
use Rattle.std.specs.Prelude.{ℕ, nat_lt, Bool, true, false, not, List, ◌++◌, if◌then◌else◌}
use Rattle.std.specs.List.{filter}
use Rattle.pe_view.specs.declared.fault.Fault.{Fault}

-- the number of the last of those on what a file says of itself
abbrev pub LAST : ℕ
LAST = 241

-- the finding comes after these, or before them
abbrev pub is_of_part : Bool → Fault → Bool
is_of_part is_late f = if is_late then nat_lt LAST f.number else not (nat_lt LAST f.number)

abbrev pub part_of : Bool → List Fault → List Fault
part_of is_late found = filter (is_of_part is_late) found

-- findings of tables with others between them, by number: those of two tables, and then those on what a file says of itself
abbrev pub with_between : List Fault → List Fault → List Fault → List Fault
with_between found between own = ((part_of false found ++ between) ++ own) ++ part_of true found
