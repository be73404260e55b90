-- What is read of an archive that was written.
use Rattle.std.specs.Prelude.{◌≡◌, ℕ, false, true, List, [], ◌++◌, map, Some, Ok, option_map, slice_index}
use Rattle.std.specs.List.{list_all, list_any}
use Rattle.pe_view.specs.Standing.{standing}
use Rattle.coff_archive.specs.Findings.{archive_tests}
use Rattle.coff_archive.specs.Front.{first_linker, second_linker, names_of}
use Rattle.coff_archive.specs.Members as archive
use Rattle.coff_archive.specs.Members.{thinness, is_special}
use Rattle.coff_archive.specs.Names.{name_of, contents_of}
use Rattle.coff_archive.specs.Symbols as archive_symbols
use Rattle.coff_archive.specs.declared.linker.Linker.TheVariants.{First, Second}
use Rattle.coff_library.specs.Members.{Member}
use Rattle.coff_library.specs.Symbols.{Symbol, symbols_of, IsAscending}
use Rattle.coff_library.specs.Written.{member_offsets}

-- a symbol of a linker member, where the headers of the members are at offsets
abbrev pub located : List ℕ → Symbol → archive_symbols.Symbol
located offsets s = record { name = s.name; member = Some (slice_index offsets s.member) }

-- an archive, which is not a thin one: behind the members that it keeps for itself come those that were given, in their order,
-- with their names and contents, and nothing else
pub record HoldsMembers (members : List Member) (file : List ℕ) : Type 0 where
  pub kind : thinness file ≡ Some false
  pub own : List archive.Member
  pub found : List archive.Member
  pub walked : archive.members false file ≡ map Ok (own ++ found)
  pub own_are : list_all (λ (m : archive.Member). is_special m.field) own ≡ true
  pub found_are : list_any (λ (m : archive.Member). is_special m.field) found ≡ false
  pub offsets_are : map (λ (m : archive.Member). m.offset) found ≡ member_offsets members
  pub names_are : map (name_of (names_of false file)) found ≡ map (λ (m : Member). Some m.name) members
  pub contents_are : map contents_of found ≡ map (λ (m : Member). m.bytes) members

-- each linker member names each symbol with the offset of the member that defines it, the first in the order of the members, the
-- second in that of the names
pub record NamesSymbols (members : List Member) (file : List ℕ) : Type 0 where
  pub first : option_map (λ (m : archive.Member). archive_symbols.symbols First m.bytes) (first_linker false file) ≡ Some (map (located (member_offsets members)) (symbols_of members))
  pub order : List Symbol
  pub ascending : IsAscending (symbols_of members) order
  pub second : option_map (λ (m : archive.Member). archive_symbols.symbols Second m.bytes) (second_linker false file) ≡ Some (map (located (member_offsets members)) order)

-- all of it is read back, and there is nothing wrong with it
pub record IsReadBack (members : List Member) (file : List ℕ) : Type 0 where
  pub members_are : HoldsMembers members file
  pub symbols_are : NamesSymbols members file
  pub sound : standing (archive_tests false file) ≡ []
