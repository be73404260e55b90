-- One more delay-loaded import of an image is bound, or left as it is.
use Rattle.std.proofs.Common.{◌≡◌, ◌∙◌, ◌+◌, ℕ, List, [], ◌∷◌, ◌++◌, map, take, Bool, true, false, cond, Option, None, Some, refl, sym, ap, append-nil, append_assoc}
use Rattle.std.specs.Prelude.{option_to_list, ◌||◌}
use Rattle.std.specs.List.{cons_option, filter_map, flat_map, list_any}
use Rattle.pe_layout.specs.Image.{LaidOut}
use Rattle.pe_ranges.specs.Ranges.{Gains, SameRanges, meets, meets_any}
use Rattle.pe_tables.specs.Imports.{Import}
use Rattle.pe_delay.specs.Imports.{delay_imports_of}
use Rattle.pe_set.specs.Bindings.{bound_to, binding_of}
use Rattle.pe_set.specs.DelayedImports.{slot_ranges, own_slot_at, stays_inside, staying}
use Rattle.pe_set.specs.Search.{resolve}
use Rattle.pe_set.specs.Set.{Module}
use Rattle.pe_set.specs.SetErrors.{end_errors, import_errors, first_error}
use Rattle.pe_set.specs.declared.entry.Policy.TheVariants.{Known}
use Rattle.pe_set.specs.declared.search.Resolution.{Resolution}

-- ---- one item or none
flat_map-if : {X Y : Type 0} (f : X → List Y) (b : Bool) (x : X) → flat_map f (cond b [] (x ∷ [])) ≡ cond b [] (f x)
flat_map-if f true x = refl
flat_map-if f false x = append-nil (f x)

cons_option-nil : {Y : Type 0} (o : Option Y) → cons_option o [] ≡ option_to_list o
cons_option-nil None = refl
cons_option-nil (Some y) = refl

filter_map-if : {X Y : Type 0} (f : X → Option Y) (b : Bool) (x : X) → filter_map f (cond b [] (x ∷ [])) ≡ cond b [] (option_to_list (f x))
filter_map-if f true x = refl
filter_map-if f false x = cons_option-nil (f x)

staying-if : (s : List Module) (b : Bool) (x : Import) → staying s (cond b [] (x ∷ [])) ≡ cond b [] (cond (stays_inside (resolve s x.module_name x.key)) (x ∷ []) [])
staying-if s true x = refl
staying-if s false x = refl

any_push : {X : Type 0} (p : X → Bool) (xs : List X) (x : X) → list_any p (xs ++ x ∷ []) ≡ (p x || list_any p xs)
any_push p [] x = refl
any_push p (y ∷ xs) x = ap (λ b. p y || b) (any_push p xs x) ∙ swap (p y) (p x) (list_any p xs)
  where
    swap : (a b c : Bool) → (a || (b || c)) ≡ (b || (a || c))
    swap true true c = refl
    swap true false c = refl
    swap false true c = refl
    swap false false c = refl

-- ---- delay-loaded import k of an image, where the slots before it are those of these imports and ranges
module _ (s : List Module) (n : ℕ) (i : LaidOut) (imports ds : List Import) (w : ℕ) (ranges : List (ℕ × ℕ)) (k : ℕ) (x : Import) (end : Resolution)
    (found : ds ≡ delay_imports_of i) (width : w ≡ i.slot_width) (same : SameRanges ranges (slot_ranges w (imports ++ take k ds)))
    (is : end ≡ resolve s x.module_name x.key) where
  meets_is : meets_any x.slot i.slot_width (slot_ranges i.slot_width (imports ++ take k (delay_imports_of i))) ≡ meets_any x.slot w ranges
  meets_is = sym (
      same (λ range. meets x.slot w range.0 range.1)
      ∙ ap (λ ds. meets_any x.slot w (slot_ranges w (imports ++ take k ds))) found
      ∙ ap (λ w. meets_any x.slot w (slot_ranges w (imports ++ take k (delay_imports_of i)))) width
      )

  pub errors_now : first_error (flat_map (import_errors Known s n) (own_slot_at i imports k x)) ≡ first_error (cond (meets_any x.slot w ranges) [] (end_errors Known n x.slot end))
  errors_now =
      ap first_error (flat_map-if (import_errors Known s n) (meets_any x.slot i.slot_width (slot_ranges i.slot_width (imports ++ take k (delay_imports_of i)))) x)
      ∙ ap (λ b. first_error (cond b [] (import_errors Known s n x))) meets_is
      ∙ ap (λ end. first_error (cond (meets_any x.slot w ranges) [] (end_errors Known n x.slot end))) (sym is)

  pub bound_now : filter_map (binding_of s n) (own_slot_at i imports k x) ≡ cond (meets_any x.slot w ranges) [] (option_to_list (bound_to n x.slot end))
  bound_now =
      filter_map-if (binding_of s n) (meets_any x.slot i.slot_width (slot_ranges i.slot_width (imports ++ take k (delay_imports_of i)))) x
      ∙ ap (λ b. cond b [] (option_to_list (binding_of s n x))) meets_is
      ∙ ap (λ end. cond (meets_any x.slot w ranges) [] (option_to_list (bound_to n x.slot end))) (sym is)

  pub kept_now : staying s (own_slot_at i imports k x) ≡ cond (meets_any x.slot w ranges) [] (cond (stays_inside end) (x ∷ []) [])
  kept_now =
      staying-if s (meets_any x.slot i.slot_width (slot_ranges i.slot_width (imports ++ take k (delay_imports_of i)))) x
      ∙ ap (λ b. cond b [] (cond (stays_inside (resolve s x.module_name x.key)) (x ∷ []) [])) meets_is
      ∙ ap (λ end. cond (meets_any x.slot w ranges) [] (cond (stays_inside end) (x ∷ []) [])) (sym is)

-- its slot is one of those before the next
pub slots_next : (w : ℕ) (imports before after : List Import) (x : Import) (old new : List (ℕ × ℕ)) → after ≡ before ++ x ∷ [] → SameRanges old (slot_ranges w (imports ++ before))
    → Gains old new (x.slot, w) → SameRanges new (slot_ranges w (imports ++ after))
slots_next w imports before after x old new is same gains = λ test.
    gains test
    ∙ ap (λ b. test (x.slot, w) || b) (same test)
    ∙ sym (any_push test (slot_ranges w (imports ++ before)) (x.slot, w))
    ∙ ap (list_any test) (sym (pushed (imports ++ before)))
    ∙ ap (λ xs. list_any test (slot_ranges w xs)) (append_assoc imports before (x ∷ []) ∙ ap (λ xs. imports ++ xs) (sym is))
  where
    pushed : (xs : List Import) → slot_ranges w (xs ++ x ∷ []) ≡ slot_ranges w xs ++ (x.slot, w) ∷ []
    pushed [] = refl
    pushed (y ∷ xs) = ap (λ rs. (y.slot, w) ∷ rs) (pushed xs)
