-- The errors and bindings of a set with its delay-loaded imports, image by image.
use Rattle.std.proofs.Common.{◌≡◌, ◌∙◌, ℕ, List, [], ◌∷◌, ◌++◌, map, cond, None, refl, ap}
use Rattle.std.specs.Prelude.{filter, is_some}
use Rattle.std.specs.List.{cons_option, filter_map, flat_map}
use Rattle.std.proofs.lemmas.List.Elements.{filter_map-append}
use Rattle.pe_tables.specs.Imports.{Import}
use Rattle.pe_tables.specs.Key.{Key}
use Rattle.pe_set.specs.Bindings.{bound_to, binding_of, bindings_in, bindings_of}
use Rattle.pe_set.specs.DelayedImports.{stays_inside, with_own_slots, delayed_in, with_imports, with_delayed}
use Rattle.pe_set.specs.Numbered.{numbered}
use Rattle.pe_set.specs.Search.{resolve}
use Rattle.pe_set.specs.Set.{Module}
use Rattle.pe_set.specs.SetErrors.{end_errors, import_errors, imports_errors, first_error}
use Rattle.pe_set.specs.declared.binding.Binding.{Binding}
use Rattle.pe_set.specs.declared.entry.Policy.{Policy}
use Rattle.pe_set.specs.declared.entry.Policy.TheVariants.{Known}
use Rattle.pe_set.specs.declared.error.MapError.{MapError}
use Rattle.pe_set.specs.declared.search.Resolution.{Resolution}
use Rattle.pe_set.specs.declared.search.Resolution.TheVariants.{Bound, Missing, Unknown, Endless}
use Rattle.pe_set.proofs.Alike.{ExportAlike, resolve_alike}
use Rattle.pe_set.proofs.NumberedLists.{flat_map-append, flat_map-same, filter_map-same, numbered-map, numbered-same}

-- ---- searches end alike, whatever is imported
alike_with : (more : Module → List Import) (s : List Module) → ExportAlike (map (λ (m : Module). with_imports (more m) m) s) s
alike_with more [] = tt
alike_with more (m ∷ s) = (refl, refl, alike_with more s)

pub resolve_delayed : (s : List Module) (name : List ℕ) (key : Key) → resolve (with_delayed s) name key ≡ resolve s name key
unfolding with_delayed
resolve_delayed s name key = resolve_alike (with_delayed s) s (alike_with (delayed_in s) s) name key

-- ---- the whole set
-- what the imports of image i give, and then its delay-loaded imports
abbrev pub errors_in : Policy → List Module → ℕ → Module → List MapError
errors_in policy s i m = flat_map (import_errors policy s i) (m.imports ++ delayed_in s m)

abbrev pub bound_in : List Module → ℕ → Module → List Binding
bound_in s i m = filter_map (binding_of s i) (m.imports ++ delayed_in s m)

pub errors_delayed : (policy : Policy) (s : List Module) → imports_errors policy (with_delayed s) ≡ numbered (errors_in policy s) 0 s
unfolding imports_errors with_delayed
errors_delayed policy s =
    numbered-map (λ i (m : Module). flat_map (import_errors policy (with_delayed s) i) m.imports) (λ (m : Module). with_imports (delayed_in s m) m) 0 s
    ∙ numbered-same (λ i (m : Module). flat_map (import_errors policy (with_delayed s) i) (m.imports ++ delayed_in s m)) (errors_in policy s)
    (λ i m. flat_map-same (import_errors policy (with_delayed s) i) (import_errors policy s i)
    (λ x. ap (end_errors policy i x.slot) (resolve_delayed s x.module_name x.key)) (m.imports ++ delayed_in s m)) 0 s

pub bindings_delayed : (s : List Module) → bindings_of (with_delayed s) ≡ numbered (bound_in s) 0 s
unfolding bindings_of with_delayed
bindings_delayed s =
    numbered-map (bindings_in (with_delayed s)) (λ (m : Module). with_imports (delayed_in s m) m) 0 s
    ∙ numbered-same (λ i (m : Module). filter_map (binding_of (with_delayed s) i) (m.imports ++ delayed_in s m)) (bound_in s)
    (λ i m. filter_map-same (binding_of (with_delayed s) i) (binding_of s i)
    (λ x. ap (bound_to i x.slot) (resolve_delayed s x.module_name x.key)) (m.imports ++ delayed_in s m)) 0 s

-- ---- delay-loaded imports whose searches come to no module that is not in the set
module _ (s : List Module) (i : ℕ) where
  errors_step : (policy : Policy) (x : Import) (end : Resolution) (xs : List Import) (later : List MapError) → flat_map (import_errors policy s i) xs ≡ later → import_errors policy s i x ≡ end_errors policy i x.slot end
      → flat_map (import_errors policy s i) (cond (stays_inside end) (x ∷ xs) xs) ≡ end_errors Known i x.slot end ++ later
  errors_step policy x (Bound exporter rva) xs later rest is = ap (λ es. es ++ flat_map (import_errors policy s i) xs) is ∙ rest
  errors_step policy x Missing xs later rest is = rest
  errors_step policy x Unknown xs later rest is = ap (λ es. es ++ flat_map (import_errors policy s i) xs) is ∙ ap (λ es. end_errors Known i x.slot Unknown ++ es) rest
  errors_step policy x (Endless length) xs later rest is = ap (λ es. es ++ flat_map (import_errors policy s i) xs) is ∙ ap (λ es. end_errors Known i x.slot (Endless length) ++ es) rest

  -- they have the errors of all such imports where a module may be missing
  pub errors_known : (policy : Policy) (xs : List Import)
      → flat_map (import_errors policy s i) (filter (λ (x : Import). stays_inside (resolve s x.module_name x.key)) xs) ≡ flat_map (import_errors Known s i) xs
  errors_known policy [] = refl
  errors_known policy (x ∷ xs) =
      errors_step policy x (resolve s x.module_name x.key) (filter (λ (x : Import). stays_inside (resolve s x.module_name x.key)) xs) (flat_map (import_errors Known s i) xs) (errors_known policy xs) refl

  bound_step : (x : Import) (end : Resolution) (xs : List Import) (later : List Binding) → filter_map (binding_of s i) xs ≡ later → binding_of s i x ≡ bound_to i x.slot end
      → filter_map (binding_of s i) (cond (stays_inside end) (x ∷ xs) xs) ≡ cons_option (bound_to i x.slot end) later
  bound_step x (Bound exporter rva) xs later rest is = ap (λ o. cons_option o (filter_map (binding_of s i) xs)) is ∙ ap (cons_option (bound_to i x.slot (Bound exporter rva))) rest
  bound_step x Missing xs later rest is = rest
  bound_step x Unknown xs later rest is = ap (λ o. cons_option o (filter_map (binding_of s i) xs)) is ∙ rest
  bound_step x (Endless length) xs later rest is = ap (λ o. cons_option o (filter_map (binding_of s i) xs)) is ∙ rest

  -- and their bindings
  pub bound_all : (xs : List Import) → filter_map (binding_of s i) (filter (λ (x : Import). stays_inside (resolve s x.module_name x.key)) xs) ≡ filter_map (binding_of s i) xs
  bound_all [] = refl
  bound_all (x ∷ xs) =
      bound_step x (resolve s x.module_name x.key) (filter (λ (x : Import). stays_inside (resolve s x.module_name x.key)) xs) (filter_map (binding_of s i) xs) (bound_all xs) refl

-- one without an error is bound exactly if its search stays inside
pub bound_stays : (i slot : ℕ) (end : Resolution) → first_error (end_errors Known i slot end) ≡ None → is_some (bound_to i slot end) ≡ stays_inside end
bound_stays i slot (Bound exporter rva) none = refl
bound_stays i slot Missing none = refl
bound_stays i slot Unknown none = absurd cc
bound_stays i slot (Endless length) none = absurd cc

-- ---- one image
module _ (s : List Module) (i : ℕ) (m : Module) where
  -- its errors are those of its imports, and then those of its delay-loaded imports with slots of their own where a module may be missing
  pub own_errors : (policy : Policy) → errors_in policy s i m ≡ flat_map (import_errors policy s i) m.imports ++ flat_map (import_errors Known s i) (with_own_slots m.image m.imports)
  own_errors policy =
      flat_map-append (import_errors policy s i) m.imports (delayed_in s m)
      ∙ ap (λ es. flat_map (import_errors policy s i) m.imports ++ es) (errors_known s i policy (with_own_slots m.image m.imports))

  -- and so are its bindings
  pub own_bound : bound_in s i m ≡ filter_map (binding_of s i) m.imports ++ filter_map (binding_of s i) (with_own_slots m.image m.imports)
  own_bound =
      filter_map-append (binding_of s i) m.imports (delayed_in s m)
      ∙ ap (λ bs. filter_map (binding_of s i) m.imports ++ bs) (bound_all s i (with_own_slots m.image m.imports))
