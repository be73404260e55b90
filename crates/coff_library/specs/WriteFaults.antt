-- The faults of an archive that is to be written, by number.
use Rattle.std.specs.Prelude.{ℕ, ◌+◌, ◌-◌, ◌^◌, ◌==◌, ◌||◌, Bool, List, [], ◌∷◌, ◌++◌, length, nat_lt}
use Rattle.std.specs.List.{list_any}
use Rattle.pe_view.specs.declared.fault.Place.TheVariants.{Item}
use Rattle.pe_view.specs.Faults.{Test, test}
use Rattle.pe_view.specs.Number.{byte_of}
use Rattle.coff_library.specs.Members.{Member}
use Rattle.coff_library.specs.Written.{members_start, room}

-- a row of the table: a number, a member's index, and the condition
abbrev pub of_member : ℕ → ℕ → Bool → Test
of_member number k stands = test number 0 (Item k) stands

-- the name would be read back as another: it is empty, has a zero byte or a line end in it, or a `/` at its end
abbrev pub is_bad_name : List ℕ → Bool
is_bad_name name = length name == 0 || (list_any (λ byte. byte == 0 || byte == 10) name || byte_of name (length name - 1) == 47)

-- fault 92, of members from an index on
abbrev pub name_tests : ℕ → List Member → List Test
name_tests k [] = []
name_tests k (m ∷ ms) = of_member 92 k (is_bad_name m.name) ∷ name_tests (k + 1) ms

-- fault 93, of members from an index on, where the header of the first is at an offset: a member's bytes end past 2^32 - 1
abbrev pub size_tests : ℕ → ℕ → List Member → List Test
size_tests k at [] = []
size_tests k at (m ∷ ms) = of_member 93 k (nat_lt (2 ^ 32 - 1) (at + 60 + length m.bytes)) ∷ size_tests (k + 1) (at + room (length m.bytes)) ms

-- fault 91: an index of the second linker member has 16 bits; and 92
abbrev pub member_tests : List Member → List Test
member_tests members = of_member 91 65535 (nat_lt 65535 (length members)) ∷ name_tests 0 members

-- faults 91 to 93
unfoldable pub write_tests : List Member → List Test
write_tests members = member_tests members ++ size_tests 0 (members_start members) members
