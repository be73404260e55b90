-- The symbols of an archive's members.
use Rattle.std.specs.Prelude.{ℕ, ◌+◌, List, [], ◌∷◌, ◌++◌, map}
use Rattle.std.specs.Cmp.Lexicographic.{slice_cmp}
use Rattle.std.specs.List.Sorted.{IsPermutation, IsSorted}
use Rattle.std.specs.Ordering.{nat_cmp, ordering_then}
use Rattle.std.specs.declared.cmp.Ordering.{Ordering}
use Rattle.coff_library.specs.Members.{Member}
use Rattle.coff_library.specs.PublicNames.{public_names}

-- a public symbol, and the index of the member that defines it, counted from 0
pub record Symbol : Type 0 where
  pub name : List ℕ
  pub member : ℕ

-- the symbols of a member of an index
abbrev pub symbols_with : ℕ → List (List ℕ) → List Symbol
symbols_with k names = map (λ name. record { name = name; member = k }) names

-- those of members, the first of which has an index
abbrev pub symbols_from : ℕ → List Member → List Symbol
symbols_from k [] = []
symbols_from k (m ∷ ms) = symbols_with k (public_names m.bytes) ++ symbols_from (k + 1) ms

abbrev pub symbols_of : List Member → List Symbol
symbols_of members = symbols_from 0 members

-- by the bytes of the names, and then by the members
abbrev pub symbol_cmp : Symbol → Symbol → Ordering
symbol_cmp a b = ordering_then (slice_cmp nat_cmp a.name b.name) (nat_cmp a.member b.member)

-- the same symbols in ascending order
pub record IsAscending (symbols order : List Symbol) : Type 0 where
  pub same : IsPermutation symbols order
  pub sorted : IsSorted symbol_cmp order
