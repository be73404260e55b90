-- The imports of a set that are bound to nothing, found beside its bindings in one pass.
use Rattle.std.proofs.Common.{◌≡◌, ◌≢◌, ◌∙◌, ◌+◌, ◌<◌, ◌≤◌, ℕ, suc, List, [], ◌∷◌, ◌++◌, length, Option, None, Some, refl, sym, ap, subst, arith, append_assoc, inl, inr}
use Rattle.std.specs.Prelude.{◌==◌, ◌&&◌, All, AllPairs, option_to_list, unwrap_or}
use Rattle.std.specs.List.{filter_map, cons_option}
use Rattle.std.proofs.lemmas.Bool.{cond-true, cond-false, and_from, and_parts, eq-eqb, eqb-true, false_from_ne_true}
use Rattle.std.proofs.lemmas.List.Elements.{All-head, All-append, All-weaker}
use Rattle.pe_view.specs.Faults.{first_standing}
use Rattle.pe_head.specs.declared.optional.Magic.{Magic}
use Rattle.pe_head.specs.declared.optional.Magic.TheVariants.{Pe32, Pe32Plus}
use Rattle.pe_layout.specs.Image.{slot_width_of}
use Rattle.pe_tables.specs.Imports.{Import}
use Rattle.pe_tables.specs.ImportPlaces.{IsApart}
use Rattle.pe_set.specs.Bindings.{binding_of, bindings_in}
use Rattle.pe_set.specs.BoundImports.{IsBindingOf}
use Rattle.pe_set.specs.Numbered.{numbered}
use Rattle.pe_set.specs.Set.{Entry, Module, modules_of}
use Rattle.pe_set.specs.SetFaults.{files_tests}
use Rattle.pe_set.specs.declared.binding.Binding.{Binding}
use Rattle.pe_set.proofs.Bound.{is_bound}
use Rattle.pe_set.proofs.Ending.{ends}
use Rattle.pe_set.proofs.Gathered.{all_given, all_got, all_numbered}
use Rattle.pe_set.proofs.Images.{Laws, known}
use Rattle.pe_unbound.specs.Unbound.{without_binding, unbound_import, after_slot, kept_unless, HaveOwnSlots}

-- a binding of an import is of its image and its slot
bound_of : (s : List Module) (i : ℕ) (x : Import) (b : Binding) → binding_of s i x ≡ Some b → IsBindingOf s i x b
bound_of s i x b is = is_bound s i x b (ends s x.module_name x.key) is

cons_option-list : {Y : Type 0} (o : Option Y) (ys : List Y) → cons_option o ys ≡ option_to_list o ++ ys
cons_option-list None ys = refl
cons_option-list (Some y) ys = refl

filter_map-next : {X Y : Type 0} (f : X → Option Y) (x : X) (xs : List X) → filter_map f (x ∷ xs) ≡ option_to_list (f x) ++ filter_map f xs
filter_map-next f x xs = cons_option-list (f x) (filter_map f xs)

-- a list of imports with slots of their own
pub own_head : (x : Import) (xs : List Import) → HaveOwnSlots (x ∷ xs) → All (λ (y : Import). x.slot ≢ y.slot) xs
own_head x xs own = λ k d lt. own 0 (suc k) d (omega arith) (omega (arith, lt))

pub own_tail : (x : Import) (xs : List Import) → HaveOwnSlots (x ∷ xs) → HaveOwnSlots xs
own_tail x xs own = λ i j d lt within. own (suc i) (suc j) d (omega (arith, lt)) (omega (arith, within))

-- slots of some bytes that share none are different
pub own_slots : (width : ℕ) (xs : List Import) → 0 < width → AllPairs (IsApart width) xs → HaveOwnSlots xs
own_slots width xs some apart = λ i j d lt within same. elim (apart i j d lt within) [
  | inl before ↦ absurd (omega (arith, some, before, same))
  | inr behind ↦ absurd (omega (arith, some, behind, same))
]

-- ---- the next binding
pub after_none : (bs : List Binding) (i slot : ℕ) → length bs ≡ 0 → after_slot bs i slot ≡ None
after_none [] i slot none = refl
after_none (b ∷ bs) i slot none = absurd (omega (arith, none))

pub after_hit : (b : Binding) (bs : List Binding) (i slot : ℕ) → b.image ≡ i → b.slot ≡ slot → after_slot (b ∷ bs) i slot ≡ Some bs
after_hit b bs i slot image own = cond-true ((b.image == i) && (b.slot == slot)) (Some bs) None (and_from (b.image == i) (b.slot == slot) (eq-eqb b.image i image) (eq-eqb b.slot slot own))

abbrev IsOther : ℕ → ℕ → Binding → Type 0
IsOther i slot b = b.image ≡ i → b.slot ≡ slot → ⊥

pub after_other : (b : Binding) (bs : List Binding) (i slot : ℕ) → (b.image ≡ i → b.slot ≡ slot → ⊥) → after_slot (b ∷ bs) i slot ≡ None
after_other b bs i slot other =
    cond-false ((b.image == i) && (b.slot == slot)) (Some bs) None
    (false_from_ne_true ((b.image == i) && (b.slot == slot)) (λ is.
    let p = and_parts (b.image == i) (b.slot == slot) is in
    other (eqb-true b.image i p.0) (eqb-true b.slot slot p.1)))

miss : (bs : List Binding) (i slot : ℕ) → All (IsOther i slot) bs → after_slot bs i slot ≡ None
miss [] i slot all = refl
miss (b ∷ bs) i slot all = after_other b bs i slot (All-head (IsOther i slot) b bs all)

-- what is left of the bindings after an import of image i, given whether the first is of its slot
abbrev Moved : List Module → ℕ → Import → List Import → List Binding → List Binding → Option (List Binding) → Type 0
Moved s i x xs later all (Some rest) = (rest ≡ filter_map (binding_of s i) xs ++ later) × (unbound_import s i x ≡ None)
Moved s i x xs later all None = (all ≡ filter_map (binding_of s i) xs ++ later) × (unbound_import s i x ≡ Some (i, x))

module _ (s : List Module) (i : ℕ) (x : Import) (xs : List Import) (later : List Binding) (late : All (λ (b : Binding). i < b.image) later) (own : All (λ (y : Import). x.slot ≢ y.slot) xs) where
  others : All (IsOther i x.slot) (filter_map (binding_of s i) xs ++ later)
  others =
      All-append (IsOther i x.slot) (filter_map (binding_of s i) xs) later
      (all_given (λ (y : Import). x.slot ≢ y.slot) (IsOther i x.slot) (binding_of s i)
      (λ y b differ is image slot. differ (sym slot ∙ (bound_of s i y b is).slot)) xs own)
      (All-weaker (λ (b : Binding). i < b.image) (IsOther i x.slot) (λ b lt image slot. absurd (omega (arith, lt, image))) later late)

  moved_by : (o : Option Binding) → binding_of s i x ≡ o → (all : List Binding) → all ≡ option_to_list o ++ (filter_map (binding_of s i) xs ++ later)
      → Moved s i x xs later all (after_slot all i x.slot)
  moved_by None is all same =
      subst (Moved s i x xs later all) (sym (ap (λ bs. after_slot bs i x.slot) same ∙ miss (filter_map (binding_of s i) xs ++ later) i x.slot others)) (same, ap (without_binding i x) is)
  moved_by (Some b) is all same =
      let own_b = bound_of s i x b is in
      subst (Moved s i x xs later all)
      (sym (ap (λ bs. after_slot bs i x.slot) same ∙ after_hit b (filter_map (binding_of s i) xs ++ later) i x.slot own_b.image own_b.slot))
      (refl, ap (without_binding i x) is)

  told : (all : List Binding) (r : Option (List Binding)) → Moved s i x xs later all r
      → (unwrap_or r all ≡ filter_map (binding_of s i) xs ++ later) × (kept_unless r (i, x) ≡ option_to_list (unbound_import s i x))
  told all None is = (is.0, ap option_to_list (sym is.1))
  told all (Some rest) is = (is.0, ap option_to_list (sym is.1))

  -- what is left of the bindings, and whether the import is kept
  pub moved : (all : List Binding) → all ≡ filter_map (binding_of s i) (x ∷ xs) ++ later
      → (unwrap_or (after_slot all i x.slot) all ≡ filter_map (binding_of s i) xs ++ later)
      × (kept_unless (after_slot all i x.slot) (i, x) ≡ option_to_list (unbound_import s i x))
  moved all same =
      told all (after_slot all i x.slot)
      (moved_by (binding_of s i x) refl all
      (same
      ∙ ap (λ bs. bs ++ later) (filter_map-next (binding_of s i) x xs)
      ∙ append_assoc (option_to_list (binding_of s i x)) (filter_map (binding_of s i) xs) later))

-- the bindings of later images
own_image : (s : List Module) (i : ℕ) (m : Module) → All (λ (b : Binding). b.image ≡ i) (bindings_in s i m)
own_image s i m =
    all_given (λ (x : Import). Unit {0}) (λ (b : Binding). b.image ≡ i) (binding_of s i)
    (λ x b own is. (bound_of s i x b is).image) m.imports (λ k d lt. tt)

pub later_images : (s : List Module) (n : ℕ) (t : List Module) → All (λ (b : Binding). n < b.image) (numbered (bindings_in s) (n + 1) t)
later_images s n t = all_numbered (λ (b : Binding). n < b.image) (bindings_in s) (n + 1) t
    (λ i m at. All-weaker (λ (b : Binding). b.image ≡ n + 1 + i) (λ (b : Binding). n < b.image) (λ b is. omega (arith, is)) (bindings_in s (n + 1 + i) m) (own_image s (n + 1 + i) m))

-- ---- accepted sets
some_width : (m : Magic) → 0 < slot_width_of m
some_width Pe32 = omega arith
some_width Pe32Plus = omega arith

-- in an image of a set whose files have no fault each import has a slot of its own
pub all_own_slots : Laws → (es : List Entry) → first_standing (files_tests es) ≡ None → All (λ (m : Module). HaveOwnSlots m.imports) (modules_of es)
all_own_slots laws es none =
    all_got (λ (m : Module). HaveOwnSlots m.imports) (modules_of es)
    (λ j m at. own_slots (slot_width_of m.magic) m.imports (some_width m.magic) (known laws es none j m at).slots_apart)

-- and has at most 1,048,576 of them
pub all_few : Laws → (es : List Entry) → first_standing (files_tests es) ≡ None → All (λ (m : Module). length m.imports ≤ 1048576) (modules_of es)
all_few laws es none = all_got (λ (m : Module). length m.imports ≤ 1048576) (modules_of es) (λ j m at. (known laws es none j m at).slots_few)
