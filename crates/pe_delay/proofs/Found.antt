-- What is found and read, descriptor by descriptor.
use Rattle.std.proofs.Common.{◌≡◌, ◌≢◌, ◌∙◌, ℕ, ◌+◌, List, [], ◌∷◌, ◌++◌, Result, Err, refl, sym, ap, subst, append_assoc}
use Rattle.pe_view.specs.declared.fault.Fault.{Fault}
use Rattle.pe_view.specs.Standing.{standing}
use Rattle.pe_view.specs.AllStanding.{some_after, some_before, standing-append}
use Rattle.pe_layout.specs.Image.{LaidOut}
use Rattle.pe_tables.specs.Imports.{Import}
use Rattle.pe_delay.specs.Entries.{entry_count}
use Rattle.pe_delay.specs.Findings.{descriptor_tests, descriptors_tests}
use Rattle.pe_delay.specs.Imports.{imports_in, imports_after}
use Rattle.pe_delay.specs.Names.{names_after, names_in}
use Rattle.pe_delay.specs.Tables.{tables_of}
use Rattle.pe_delay.specs.Walk.{AddsImports}
use Rattle.pe_delay.specs.declared.descriptor.DelayDescriptor.{DelayDescriptor}

-- the last part of a list is empty
pub empty_after : {X : Type 0} (xs ys : List X) → xs ++ ys ≡ [] → ys ≡ []
empty_after [] ys none = none
empty_after (x ∷ xs) ys none = absurd cc

-- the first part
pub empty_before : {X : Type 0} (xs ys : List X) → xs ++ ys ≡ [] → xs ≡ []
empty_before [] ys none = refl
empty_before (x ∷ xs) ys none = absurd cc

module _ (i : LaidOut) (read : ℕ) (d : DelayDescriptor) (left more : List DelayDescriptor) (is : left ≡ d ∷ more) where
  abbrev next : ℕ
  next = read + entry_count i (tables_of i d) read

  -- its findings were added
  pub found_more : (old new whole : List Fault) → new ≡ old ++ standing (descriptor_tests i read d)
      → old ++ standing (descriptors_tests i read left) ≡ whole → new ++ standing (descriptors_tests i next more) ≡ whole
  found_more old new whole after inv =
      let here = descriptor_tests i read d in
      let rest = descriptors_tests i next more in
      ap (λ (fs : List Fault). fs ++ standing rest) after
      ∙ append_assoc old (standing here) (standing rest)
      ∙ ap (λ (fs : List Fault). old ++ fs) (sym (standing-append here rest))
      ∙ ap (λ (ds : List DelayDescriptor). old ++ standing (descriptors_tests i read ds)) (sym is)
      ∙ inv

  -- it has one, or a later descriptor does
  pub some_here : standing (descriptor_tests i read d) ≢ [] → standing (descriptors_tests i read left) ≢ []
  some_here some = rw is (some_before (descriptor_tests i read d) (descriptors_tests i next more) some)

  pub some_later : standing (descriptors_tests i next more) ≢ [] → standing (descriptors_tests i read left) ≢ []
  some_later some = rw is (some_after (descriptor_tests i read d) (descriptors_tests i next more) some)

  -- its imports were added
  pub read_more : (old new whole : List Import) → new ≡ old ++ imports_in i read d → old ++ imports_after i read left ≡ whole → new ++ imports_after i next more ≡ whole
  read_more old new whole after inv =
      ap (λ (xs : List Import). xs ++ imports_after i next more) after
      ∙ append_assoc old (imports_in i read d) (imports_after i next more)
      ∙ ap (λ (ds : List DelayDescriptor). old ++ imports_after i read ds) (sym is)
      ∙ inv

  -- and the RVAs of its names
  pub names_more : (old new whole : List ℕ) → new ≡ old ++ names_in i read d → old ++ names_after i read left ≡ whole → new ++ names_after i next more ≡ whole
  names_more old new whole after inv =
      ap (λ (xs : List ℕ). xs ++ names_after i next more) after
      ∙ append_assoc old (names_in i read d) (names_after i next more)
      ∙ ap (λ (ds : List DelayDescriptor). old ++ names_after i read ds) (sym is)
      ∙ inv

  pub import_here : imports_in i read d ≢ [] → imports_after i read left ≢ []
  import_here some none = some (empty_before (imports_in i read d) (imports_after i next more) (ap (imports_after i read) (sym is) ∙ none))

  pub import_later : imports_after i next more ≢ [] → imports_after i read left ≢ []
  import_later some none = some (empty_after (imports_in i read d) (imports_after i next more) (ap (imports_after i read) (sym is) ∙ none))

-- a call that is out of memory, where there is an import to add
pub adds_wants : {E : Type 0} (more old new : List Import) (result : Result (Unit {0}) E) (error : E) → result ≡ Err error → more ≢ [] → AddsImports more old new result
adds_wants more old new result error is some = subst (AddsImports more old new) (sym is) some
