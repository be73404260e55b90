-- What an import is bound to, by where its search ends.
use Rattle.std.specs.Prelude.{◌≡◌, ℕ, List}
use Rattle.pe_tables.specs.Imports.{Import}
use Rattle.pe_set.specs.Set.{Module}
use Rattle.pe_set.specs.SearchEnds.{EndsAs}
use Rattle.pe_set.specs.declared.binding.Binding.{Binding}
use Rattle.pe_set.specs.declared.search.Resolution.TheVariants.{Bound}

-- the slot of an import of image i holds the address of the export at which its search ends
pub record IsBindingOf (s : List Module) (i : ℕ) (x : Import) (b : Binding) : Type 0 where
  pub image : b.image ≡ i
  pub slot : b.slot ≡ x.slot
  pub ends : EndsAs s (x.module_name, x.key) (Bound b.exporter b.rva)
