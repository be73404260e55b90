-- The error of a set that is a cycle is that of an import whose search never ends.
use Rattle.std.proofs.Common.{◌≡◌, ◌∙◌, ◌+◌, ℕ, zero, suc, List, [], ◌∷◌, ◌++◌, Option, Some, None, refl, sym, ap, subst, arith}
use Rattle.std.specs.Prelude.{slice_get}
use Rattle.std.specs.List.{flat_map}
use Rattle.std.proofs.lemmas.Option.{same_Some}
use Rattle.pe_view.specs.declared.fault.Fault.{Fault}
use Rattle.pe_view.specs.Faults.{Test, first_standing}
use Rattle.pe_set.specs.Numbered.{numbered}
use Rattle.pe_set.specs.Search.{resolve}
use Rattle.pe_set.specs.SearchEnds.{EndsAs}
use Rattle.pe_set.specs.Set.{Entry, Module, modules_of}
use Rattle.pe_set.specs.SetFaults.{names_tests, files_tests, places_tests}
use Rattle.pe_set.specs.SetErrors.{slot_fault, end_errors, import_errors, imports_errors, first_error, faults_in, set_errors, set_error, IsCycleOf}
use Rattle.pe_set.specs.declared.entry.Policy.{Policy}
use Rattle.pe_set.specs.declared.entry.Policy.TheVariants.{Strict, Known}
use Rattle.pe_set.specs.declared.search.Resolution.{Resolution}
use Rattle.pe_set.specs.declared.search.Resolution.TheVariants.{Bound, Missing, Unknown, Endless}
use Rattle.pe_set.specs.declared.error.MapError.{MapError}
use Rattle.pe_set.specs.declared.error.MapError.TheVariants as errors
use Rattle.pe_set.proofs.Ending.{ends}
use Rattle.pe_set.proofs.Errors.{error_or, class_first}

-- which item of a list has the first error
in_flat_step : {X : Type 0} (f : X → List MapError) (xs : List X) (error : MapError) (x : X) (own : List MapError)
    → (first_error (flat_map f xs) ≡ Some error → (k : ℕ) × (y : X) × (slice_get xs k ≡ Some y) × (first_error (f y) ≡ Some error))
    → f x ≡ own → first_error (own ++ flat_map f xs) ≡ Some error → (k : ℕ) × (y : X) × (slice_get (x ∷ xs) k ≡ Some y) × (first_error (f y) ≡ Some error)
in_flat_step f xs error x [] later own is = let there = later is in (suc there.0, there.1, there.2, there.3)
in_flat_step f xs error x (other ∷ rest) later own is = (zero, x, refl, ap first_error own ∙ is)

in_flat : {X : Type 0} (f : X → List MapError) (xs : List X) (error : MapError) → first_error (flat_map f xs) ≡ Some error
    → (k : ℕ) × (x : X) × (slice_get xs k ≡ Some x) × (first_error (f x) ≡ Some error)
in_flat f [] error is = absurd cc
in_flat f (x ∷ xs) error is = in_flat_step f xs error x (f x) (in_flat f xs error) refl is

in_numbered_step : {X : Type 0} (f : ℕ → X → List MapError) (n : ℕ) (xs : List X) (error : MapError) (x : X) (own : List MapError)
    → (first_error (numbered f (n + 1) xs) ≡ Some error → (k : ℕ) × (y : X) × (slice_get xs k ≡ Some y) × (first_error (f (n + 1 + k) y) ≡ Some error))
    → f n x ≡ own → first_error (own ++ numbered f (n + 1) xs) ≡ Some error → (k : ℕ) × (y : X) × (slice_get (x ∷ xs) k ≡ Some y) × (first_error (f (n + k) y) ≡ Some error)
in_numbered_step f n xs error x [] later own is =
    let there = later is in
    let number : n + 1 + there.0 ≡ n + suc there.0 = omega arith in
    (suc there.0, there.1, there.2, sym (ap (λ k. first_error (f k there.1)) number) ∙ there.3)
in_numbered_step f n xs error x (other ∷ rest) later own is =
    let number : n ≡ n + zero = omega arith in
    (zero, x, refl, sym (ap (λ k. first_error (f k x)) number) ∙ ap first_error own ∙ is)

in_numbered : {X : Type 0} (f : ℕ → X → List MapError) (n : ℕ) (xs : List X) (error : MapError) → first_error (numbered f n xs) ≡ Some error
    → (k : ℕ) × (x : X) × (slice_get xs k ≡ Some x) × (first_error (f (n + k) x) ≡ Some error)
in_numbered f n [] error is = absurd cc
in_numbered f n (x ∷ xs) error is = in_numbered_step f n xs error x (f n x) (in_numbered f (n + 1) xs error) refl is

abbrev fault_or_none : MapError → Fault → Fault
fault_or_none errors.Memory other = other
fault_or_none (errors.Fault fault) other = fault
fault_or_none (errors.Cycle fault length) other = fault

abbrev length_or_0 : MapError → ℕ
length_or_0 errors.Memory = 0
length_or_0 (errors.Fault fault) = 0
length_or_0 (errors.Cycle fault length) = length

-- the import's search never ends
endless_end : (policy : Policy) (i slot : ℕ) (end : Resolution) (fault : Fault) (length : ℕ) → first_error (end_errors policy i slot end) ≡ Some (errors.Cycle fault length)
    → (end ≡ Endless length) × (fault ≡ slot_fault 50 i slot)
endless_end policy i slot (Bound image rva) fault length is = absurd cc
endless_end Strict i slot Missing fault length is = absurd cc
endless_end Known i slot Missing fault length is = absurd cc
endless_end policy i slot Unknown fault length is = absurd cc
endless_end policy i slot (Endless own) fault length is =
    let same = same_Some (errors.Cycle (slot_fault 50 i slot) own) (errors.Cycle fault length) is in
    (ap (λ e. Endless (length_or_0 e)) same, sym (ap (λ e. fault_or_none e fault) same))

behind_fault : (o : Option Fault) (later : Option MapError) (fault : Fault) (length : ℕ) → error_or o later ≡ Some (errors.Cycle fault length) → later ≡ Some (errors.Cycle fault length)
behind_fault None later fault length is = is
behind_fault (Some other) later fault length is = absurd cc

behind : (tests : List Test) (later : List MapError) (fault : Fault) (length : ℕ) → first_error (faults_in tests ++ later) ≡ Some (errors.Cycle fault length)
    → first_error later ≡ Some (errors.Cycle fault length)
behind tests later fault length is = behind_fault (first_standing tests) (first_error later) fault length (sym (class_first tests later) ∙ is)

import_cycle : (policy : Policy) (s : List Module) (fault : Fault) (length : ℕ) → first_error (imports_errors policy s) ≡ Some (errors.Cycle fault length) → IsCycleOf s fault length
unfolding imports_errors
import_cycle policy s fault length is =
    let error = errors.Cycle fault length in
    let m = in_numbered (λ i (m : Module). flat_map (import_errors policy s i) m.imports) 0 s error is in
    let x = in_flat (import_errors policy s (0 + m.0)) m.1.imports error m.3 in
    let end = endless_end policy (0 + m.0) x.1.slot (resolve s x.1.module_name x.1.key) fault length x.3 in
    let here : 0 + m.0 ≡ m.0 = omega arith in
    let own : fault ≡ slot_fault 50 m.0 x.1.slot = end.1 ∙ ap (λ i. slot_fault 50 i x.1.slot) here in
    record {
      image = m.0;
      importer = m.1;
      importer_at = m.2;
      index = x.0;
      import = x.1;
      import_at = x.2;
      fault_is = own;
      endless = subst (EndsAs s (x.1.module_name, x.1.key)) end.0 (ends s x.1.module_name x.1.key);
    }

pub set_cycle : (policy : Policy) (es : List Entry) (fault : Fault) (length : ℕ) → set_error policy es ≡ Some (errors.Cycle fault length) → IsCycleOf (modules_of es) fault length
unfolding set_errors
set_cycle policy es fault length is =
    let s = modules_of es in
    let places = faults_in (places_tests s) ++ imports_errors policy s in
    import_cycle policy s fault length
    (behind (places_tests s) (imports_errors policy s) fault length
    (behind (files_tests es) places fault length
    (behind (names_tests es) (faults_in (files_tests es) ++ places) fault length is)))
