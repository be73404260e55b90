-- Searches end alike in two sets whose images have the same names and exports.
use Rattle.std.proofs.Common.{◌≡◌, ◌∙◌, ◌+◌, ℕ, zero, suc, Bool, List, [], ◌∷◌, cond, length, Option, None, Some, refl, ap}
use Rattle.std.specs.Prelude.{nat_lt, not, option_map, option_and_then}
use Rattle.std.specs.List.{prefix_len}
use Rattle.pe_tables.specs.Key.{Key, Target, Rva, Forward}
use Rattle.pe_tables.specs.Exports.{Exports, target_at}
use Rattle.pe_set.specs.Set.{Module, named, same_name, forwarded_name}
use Rattle.pe_set.specs.Search.{target_in, from_target, from_image, resolve_in, stand_at, onward, step, steps, stands, pairs_of, same_stand, steps_to, cycle_at, cycle_length, ended, resolve}
use Rattle.pe_set.specs.declared.search.Resolution.{Resolution}

-- image by image, two sets have the same names and exports
abbrev pub ExportAlike : List Module → List Module → Type 0
ExportAlike [] [] = Unit {0}
ExportAlike [] (n ∷ t) = ⊥
ExportAlike (m ∷ s) [] = ⊥
ExportAlike (m ∷ s) (n ∷ t) = (m.name ≡ n.name) × (m.exports ≡ n.exports) × ExportAlike s t

length_alike : (s t : List Module) → ExportAlike s t → length s ≡ length t
length_alike [] [] alike = refl
length_alike [] (n ∷ t) alike = absurd alike
length_alike (m ∷ s) [] alike = absurd alike
length_alike (m ∷ s) (n ∷ t) alike = ap (λ k. suc k) (length_alike s t alike.2)

abbrev has_other_name : List ℕ → Module → Bool
has_other_name name m = not (same_name name m.name)

prefix_alike : (name : List ℕ) (s t : List Module) → ExportAlike s t → prefix_len (has_other_name name) s ≡ prefix_len (has_other_name name) t
prefix_alike name [] [] alike = refl
prefix_alike name [] (n ∷ t) alike = absurd alike
prefix_alike name (m ∷ s) [] alike = absurd alike
prefix_alike name (m ∷ s) (n ∷ t) alike =
    ap (λ (own : List ℕ). cond (not (same_name name own)) (1 + prefix_len (has_other_name name) s) 0) alike.0
    ∙ ap (λ k. cond (not (same_name name n.name)) (1 + k) 0) (prefix_alike name s t alike.2)

-- a name names the same image
named_alike : (name : List ℕ) (s t : List Module) → ExportAlike s t → named s name ≡ named t name
named_alike name s t alike =
    let k = prefix_len (has_other_name name) t in
    ap (λ n. cond (nat_lt n (length s)) (Some n) None) (prefix_alike name s t alike)
    ∙ ap (λ n. cond (nat_lt k n) (Some k) None) (length_alike s t alike)

-- which exports the same
target_alike : (key : Key) (s t : List Module) (i : ℕ) → ExportAlike s t → target_in s key i ≡ target_in t key i
target_alike key [] [] i alike = refl
target_alike key [] (n ∷ t) i alike = absurd alike
target_alike key (m ∷ s) [] i alike = absurd alike
target_alike key (m ∷ s) (n ∷ t) zero alike = ap (λ (exports : Exports). target_at exports key) alike.1
target_alike key (m ∷ s) (n ∷ t) (suc i) alike = target_alike key s t i alike.2

-- there are as many pairs of exports
pairs_alike : (s t : List Module) → ExportAlike s t → pairs_of s ≡ pairs_of t
pairs_alike [] [] alike = refl
pairs_alike [] (n ∷ t) alike = absurd alike
pairs_alike (m ∷ s) [] alike = absurd alike
pairs_alike (m ∷ s) (n ∷ t) alike =
    ap (λ (exports : Exports). length exports.ordinals + length exports.names + pairs_of s) alike.1
    ∙ ap (λ k. length n.exports.ordinals + length n.exports.names + k) (pairs_alike s t alike.2)

-- two searches that continue alike
module _ (next next' : List ℕ → Key → Option Resolution) (same : (name : List ℕ) (key : Key) → next' name key ≡ next name key) where
  target_same : (i : ℕ) (t : Option Target) → from_target next' i t ≡ from_target next i t
  target_same i None = refl
  target_same i (Some (Rva rva)) = refl
  target_same i (Some (Forward name key)) = same (forwarded_name name) key

  image_same : (s s' : List Module) (key : Key) → ((i : ℕ) → target_in s' key i ≡ target_in s key i) → (o : Option ℕ)
      → from_image s' next' key o ≡ from_image s next key o
  image_same s s' key targets None = refl
  image_same s s' key targets (Some i) = ap (from_target next' i) (targets i) ∙ target_same i (target_in s key i)

module _ (s t : List Module) (alike : ExportAlike s t) where
  resolve_in_alike : (n : ℕ) (name : List ℕ) (key : Key) → resolve_in n s name key ≡ resolve_in n t name key
  resolve_in_alike zero name key = refl
  resolve_in_alike (suc n) name key =
      ap (from_image s (resolve_in n s) key) (named_alike name s t alike)
      ∙ image_same (resolve_in n t) (resolve_in n s) (resolve_in_alike n) t s key (λ i. target_alike key s t i alike) (named t name)

  -- ---- where it is, and when it is there again
  stand_alike : (name : List ℕ) (key : Key) → stand_at s name key ≡ stand_at t name key
  stand_alike name key = ap (option_map (λ i. (i, key))) (named_alike name s t alike)

  onward_alike : (o : Option Target) → onward s o ≡ onward t o
  onward_alike None = refl
  onward_alike (Some (Rva rva)) = refl
  onward_alike (Some (Forward name key)) = stand_alike (forwarded_name name) key

  step_alike : (o : Option (ℕ × Key)) → option_and_then (step s) o ≡ option_and_then (step t) o
  step_alike None = refl
  step_alike (Some p) = ap (onward s) (target_alike p.1 s t p.0 alike) ∙ onward_alike (target_in t p.1 p.0)

  steps_alike : (n : ℕ) (o : Option (ℕ × Key)) → steps s n o ≡ steps t n o
  steps_alike zero o = refl
  steps_alike (suc n) o = steps_alike n (option_and_then (step s) o) ∙ ap (steps t n) (step_alike o)

  steps_to_alike : (n : ℕ) (p : ℕ × Key) (o : Option (ℕ × Key)) → steps_to n s p o ≡ steps_to n t p o
  steps_to_alike zero p o = refl
  steps_to_alike (suc n) p o =
      ap (λ k. suc (cond (same_stand p (option_and_then (step s) o)) 0 k)) (steps_to_alike n p (option_and_then (step s) o))
      ∙ ap (λ q. suc (cond (same_stand p q) 0 (steps_to n t p q))) (step_alike o)

  cycle_at_alike : (n : ℕ) (o : Option (ℕ × Key)) → cycle_at n s o ≡ cycle_at n t o
  cycle_at_alike n None = refl
  cycle_at_alike n (Some p) = steps_to_alike n p (Some p)

  cycle_alike : (name : List ℕ) (key : Key) → cycle_length s name key ≡ cycle_length t name key
  cycle_alike name key =
      ap (λ n. cycle_at n s (stands s name key (suc n))) (pairs_alike s t alike)
      ∙ cycle_at_alike (pairs_of t) (stands s name key (suc (pairs_of t)))
      ∙ ap (cycle_at (pairs_of t) t) (steps_alike (suc (pairs_of t)) (stand_at s name key) ∙ ap (steps t (suc (pairs_of t))) (stand_alike name key))

  -- a search ends alike
  pub resolve_alike : (name : List ℕ) (key : Key) → resolve s name key ≡ resolve t name key
  unfolding resolve
  resolve_alike name key =
      ap (λ n. ended n (resolve_in (suc (pairs_of s)) s name key)) (cycle_alike name key)
      ∙ ap (λ n. ended (cycle_length t name key) (resolve_in (suc n) s name key)) (pairs_alike s t alike)
      ∙ ap (ended (cycle_length t name key)) (resolve_in_alike (suc (pairs_of t)) name key)
