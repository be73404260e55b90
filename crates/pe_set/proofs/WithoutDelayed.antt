-- A set without an error with its delay-loaded imports has none without them.
use Rattle.std.proofs.Common.{◌≡◌, ◌∙◌, ◌+◌, ℕ, List, [], ◌∷◌, ◌++◌, refl, sym}
use Rattle.std.specs.List.{flat_map}
use Rattle.pe_set.specs.DelayedImports.{delayed_in, with_delayed}
use Rattle.pe_set.specs.Numbered.{numbered}
use Rattle.pe_set.specs.Set.{Module}
use Rattle.pe_set.specs.SetErrors.{import_errors, imports_errors}
use Rattle.pe_set.specs.declared.entry.Policy.{Policy}
use Rattle.pe_set.proofs.DelayedSearch.{errors_delayed, errors_in}
use Rattle.pe_set.proofs.NumberedLists.{flat_map-append}

first_empty : {X : Type 0} (xs ys : List X) → xs ++ ys ≡ [] → xs ≡ []
first_empty [] ys none = refl
first_empty (x ∷ xs) ys none = absurd cc

last_empty : {X : Type 0} (xs ys : List X) → xs ++ ys ≡ [] → ys ≡ []
last_empty [] ys none = none
last_empty (x ∷ xs) ys none = absurd cc

module _ (policy : Policy) (s : List Module) where
  none_of : (n : ℕ) (ms : List Module) → numbered (errors_in policy s) n ms ≡ [] → numbered (λ i (m : Module). flat_map (import_errors policy s i) m.imports) n ms ≡ []
  none_of n [] none = refl
  none_of n (m ∷ ms) none =
      let own = sym (flat_map-append (import_errors policy s n) m.imports (delayed_in s m)) ∙ first_empty (errors_in policy s n m) (numbered (errors_in policy s) (n + 1) ms) none in
      let imports = first_empty (flat_map (import_errors policy s n) m.imports) (flat_map (import_errors policy s n) (delayed_in s m)) own in
      let rest = none_of (n + 1) ms (last_empty (errors_in policy s n m) (numbered (errors_in policy s) (n + 1) ms) none) in
      rw (imports, rest) refl

  pub without : imports_errors policy (with_delayed s) ≡ [] → imports_errors policy s ≡ []
  unfolding imports_errors
  without none = none_of 0 s (sym (errors_delayed policy s) ∙ none)
