-- The imports of a set that are bound to nothing.
use Rattle.std.specs.Prelude.{◌≢◌, ◌==◌, ◌&&◌, ℕ, List, [], ◌∷◌, AllPairs, Option, Some, None, if◌then◌else◌}
use Rattle.std.specs.List.{filter_map}
use Rattle.pe_tables.specs.Imports.{Import}
use Rattle.pe_set.specs.Bindings.{binding_of}
use Rattle.pe_set.specs.Numbered.{numbered}
use Rattle.pe_set.specs.Set.{Module}
use Rattle.pe_set.specs.declared.binding.Binding.{Binding}

-- an import of image i, if it has no binding
abbrev pub without_binding : ℕ → Import → Option Binding → Option (ℕ × Import)
without_binding i x None = Some (i, x)
without_binding i x (Some b) = None

-- an import of image i if its search does not end at an export, so that its slot is left as it is
abbrev pub unbound_import : List Module → ℕ → Import → Option (ℕ × Import)
unbound_import s i x = without_binding i x (binding_of s i x)

abbrev pub unbound_in : List Module → ℕ → Module → List (ℕ × Import)
unbound_in s i m = filter_map (unbound_import s i) m.imports

-- by image, and then in the order of its imports
unfoldable pub unbound_of : List Module → List (ℕ × Import)
unbound_of s = numbered (unbound_in s) 0 s

-- ---- one pass over imports and bindings
-- the bindings after the first, if that is of this slot of an image
abbrev pub after_slot : List Binding → ℕ → ℕ → Option (List Binding)
after_slot [] image slot = None
after_slot (b ∷ bs) image slot = if (b.image == image) && (b.slot == slot) then Some bs else None

-- an import, unless a binding is that of its slot
abbrev pub kept_unless : Option (List Binding) → ℕ × Import → List (ℕ × Import)
kept_unless None u = u ∷ []
kept_unless (Some left) u = []

-- no two imports have one slot
abbrev pub HaveOwnSlots : List Import → Type 0
HaveOwnSlots imports = AllPairs (λ (x y : Import). x.slot ≢ y.slot) imports
