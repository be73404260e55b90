-- What an import is bound to is where its search ends.
use Rattle.std.proofs.Common.{◌≡◌, ◌∙◌, ℕ, List, Some, sym, ap, subst}
use Rattle.std.proofs.lemmas.Option.{same_Some}
use Rattle.pe_tables.specs.Imports.{Import}
use Rattle.pe_set.specs.Bindings.{bound_to, binding_of}
use Rattle.pe_set.specs.BoundImports.{IsBindingOf}
use Rattle.pe_set.specs.Search.{resolve}
use Rattle.pe_set.specs.SearchEnds.{EndsAs}
use Rattle.pe_set.specs.Set.{Module}
use Rattle.pe_set.specs.declared.binding.Binding.{Binding}
use Rattle.pe_set.specs.declared.search.Resolution.{Resolution}
use Rattle.pe_set.specs.declared.search.Resolution.TheVariants.{Bound, Missing, Unknown, Endless}

module _ (s : List Module) (i : ℕ) (x : Import) (b : Binding) where
  -- a search that ends so binds the slot
  given : (end : Resolution) → EndsAs s (x.module_name, x.key) end → bound_to i x.slot end ≡ Some b → IsBindingOf s i x b
  given (Bound j u) ends is =
      let same = same_Some _ b is in record {
        image = ap (λ (b : Binding). b.image) (sym same);
        slot = ap (λ (b : Binding). b.slot) (sym same);
        ends = subst (λ (b : Binding). EndsAs s (x.module_name, x.key) (Bound b.exporter b.rva)) same ends;
      }
  given Missing ends is = absurd cc
  given Unknown ends is = absurd cc
  given (Endless length) ends is = absurd cc

  pub is_bound : EndsAs s (x.module_name, x.key) (resolve s x.module_name x.key) → binding_of s i x ≡ Some b → IsBindingOf s i x b
  is_bound ends is = given (resolve s x.module_name x.key) ends is

  pub bound_is : ((end : Resolution) → EndsAs s (x.module_name, x.key) end → end ≡ resolve s x.module_name x.key) → IsBindingOf s i x b → binding_of s i x ≡ Some b
  bound_is one is =
      ap (bound_to i x.slot) (sym (one (Bound b.exporter b.rva) is.ends))
      ∙ ap (λ (image : ℕ). Some (record b { image = image; slot = x.slot })) (sym is.image)
      ∙ ap (λ (slot : ℕ). Some (record b { slot = slot })) (sym is.slot)
