-- The slots of a set's images that are bound.
use Rattle.std.specs.Prelude.{ℕ, List, Option, Some, None}
use Rattle.std.specs.List.{filter_map}
use Rattle.pe_tables.specs.Imports.{Import}
use Rattle.pe_set.specs.Numbered.{numbered}
use Rattle.pe_set.specs.Set.{Module}
use Rattle.pe_set.specs.Search.{resolve}
use Rattle.pe_set.specs.declared.binding.Binding.{Binding}
use Rattle.pe_set.specs.declared.search.Resolution.{Resolution}
use Rattle.pe_set.specs.declared.search.Resolution.TheVariants.{Bound, Missing, Unknown, Endless}

abbrev pub bound_to : ℕ → ℕ → Resolution → Option Binding
bound_to i slot (Bound exporter rva) = Some (record { image = i; slot = slot; exporter = exporter; rva = rva })
bound_to i slot Missing = None
bound_to i slot Unknown = None
bound_to i slot (Endless length) = None

-- the binding of an import of image i, if any
abbrev pub binding_of : List Module → ℕ → Import → Option Binding
binding_of s i x = bound_to i x.slot (resolve s x.module_name x.key)

abbrev pub bindings_in : List Module → ℕ → Module → List Binding
bindings_in s i m = filter_map (binding_of s i) m.imports

-- by image, and then in the order of its imports
unfoldable pub bindings_of : List Module → List Binding
bindings_of s = numbered (bindings_in s) 0 s
