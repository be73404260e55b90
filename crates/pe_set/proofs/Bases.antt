-- What slots are bound to depends only on names, exports and imports; other bases change where images are and nothing else.
use Rattle.std.proofs.Common.{◌≡◌, ◌∙◌, ◌+◌, ℕ, List, [], ◌∷◌, ◌++◌, refl, ap}
use Rattle.std.specs.List.{cons_option, filter_map}
use Rattle.pe_tables.specs.Key.{Key}
use Rattle.pe_tables.specs.Imports.{Import}
use Rattle.pe_set.specs.Numbered.{numbered}
use Rattle.pe_set.specs.Set.{Entry, Module, module_of, modules_from, modules_of, at_bases, rebased, AreAlike}
use Rattle.pe_set.specs.Search.{resolve}
use Rattle.pe_set.specs.Bindings.{bound_to, binding_of, bindings_in, bindings_of}
use Rattle.pe_set.proofs.Alike.{ExportAlike, resolve_alike}

modules_rebased : (n : ℕ) (bases : List ℕ) (es : List Entry) → modules_from n (at_bases bases es) ≡ rebased bases (modules_from n es)
modules_rebased n [] es = refl
modules_rebased n (base ∷ bases) [] = refl
modules_rebased n (base ∷ bases) (e ∷ es) = ap (λ (s : List Module). record (module_of n e) { base = base } ∷ s) (modules_rebased (n + 1) bases es)

-- the images of a set at other bases are its images at them
pub images_at : (bases : List ℕ) (es : List Entry) → modules_of (at_bases bases es) ≡ rebased bases (modules_of es)
unfolding modules_of
images_at bases es = modules_rebased 0 bases es

exports_alike : (s t : List Module) → AreAlike s t → ExportAlike s t
exports_alike [] [] alike = tt
exports_alike [] (n ∷ t) alike = absurd alike
exports_alike (m ∷ s) [] alike = absurd alike
exports_alike (m ∷ s) (n ∷ t) alike = (alike.0, alike.1, exports_alike s t alike.3)

module _ (s t : List Module) (alike : AreAlike s t) where
  bindings_same : (i : ℕ) (xs : List Import) → filter_map (binding_of s i) xs ≡ filter_map (binding_of t i) xs
  bindings_same i [] = refl
  bindings_same i (x ∷ xs) =
      ap (λ o. cons_option o (filter_map (binding_of s i) xs)) (ap (bound_to i x.slot) (resolve_alike s t (exports_alike s t alike) x.module_name x.key))
      ∙ ap (cons_option (binding_of t i x)) (bindings_same i xs)

  -- the same of some of the images
  numbered_alike : (n : ℕ) (u v : List Module) → AreAlike u v → numbered (bindings_in s) n u ≡ numbered (bindings_in t) n v
  numbered_alike n [] [] parts = refl
  numbered_alike n [] (b ∷ v) parts = absurd parts
  numbered_alike n (a ∷ u) [] parts = absurd parts
  numbered_alike n (a ∷ u) (b ∷ v) parts =
      ap (λ bs. bs ++ numbered (bindings_in s) (n + 1) u) (bindings_same n a.imports ∙ ap (filter_map (binding_of t n)) parts.2)
      ∙ ap (λ bs. bindings_in t n b ++ bs) (numbered_alike (n + 1) u v parts.3)

-- slots are bound alike
pub bindings_alike : (s t : List Module) → AreAlike s t → bindings_of s ≡ bindings_of t
unfolding bindings_of
bindings_alike s t alike = numbered_alike s t alike 0 s t alike

all_alike : (s : List Module) → AreAlike s s
all_alike [] = tt
all_alike (m ∷ s) = (refl, refl, refl, all_alike s)

alike_rebased : (bases : List ℕ) (s : List Module) → AreAlike (rebased bases s) s
alike_rebased [] s = all_alike s
alike_rebased (base ∷ bases) [] = tt
alike_rebased (base ∷ bases) (m ∷ s) = (refl, refl, refl, alike_rebased bases s)

-- a search ends alike at other bases
pub resolve_rebased : (bases : List ℕ) (s : List Module) (name : List ℕ) (key : Key) → resolve (rebased bases s) name key ≡ resolve s name key
resolve_rebased bases s name key = resolve_alike (rebased bases s) s (exports_alike (rebased bases s) s (alike_rebased bases s)) name key

pub bindings_rebased : (bases : List ℕ) (s : List Module) → bindings_of (rebased bases s) ≡ bindings_of s
bindings_rebased bases s = bindings_alike (rebased bases s) s (alike_rebased bases s)

-- the slots of a set are bound alike at other bases
pub bindings_at : (bases : List ℕ) (es : List Entry) → bindings_of (modules_of (at_bases bases es)) ≡ bindings_of (modules_of es)
bindings_at bases es = ap bindings_of (images_at bases es) ∙ bindings_rebased bases (modules_of es)
