-- The images of a set's content, by their numbers.
use Rattle.std.proofs.Common.{◌≡◌, ◌<◌, ◌≤◌, ◌+◌, ℕ, zero, suc, List, [], ◌∷◌, length, map, Some, refl, ap, subst, arith}
use Rattle.std.specs.Prelude.{slice_get, All, AllPairs}
use Rattle.std.proofs.lemmas.Option.{same_Some}
use Rattle.pe_set.specs.Set.{Entry, Module, modules_from, modules_of}
use Rattle.pe_space.specs.Content.{nth_image, no_image}
use Rattle.pe_space.specs.SetContent.{image_content}
use Rattle.pe_space.specs.FieldsAndSlots.{Each, EachPair}

pub module_got : (s : List Module) (j : ℕ) → j < length s → (m : Module) × (slice_get s j ≡ Some m) × (nth_image (map image_content s) j ≡ image_content m)
module_got [] j lt = absurd (omega arith)
module_got (m ∷ s) zero lt = (m, refl, refl)
module_got (m ∷ s) (suc j) lt = module_got s j (omega arith)

pub past_end : (s : List Module) (j : ℕ) → length s ≤ j → nth_image (map image_content s) j ≡ no_image
past_end [] j le = refl
past_end (m ∷ s) zero le = absurd (omega arith)
past_end (m ∷ s) (suc j) le = past_end s j (omega arith)

pub image_got : (s : List Module) (j : ℕ) (m : Module) → slice_get s j ≡ Some m → nth_image (map image_content s) j ≡ image_content m
image_got [] j m at = absurd cc
image_got (x ∷ s) zero m at = ap image_content (same_Some x m at)
image_got (x ∷ s) (suc j) m at = image_got s j m at

pub got_below : {X : Type 0} (xs : List X) (i : ℕ) (x : X) → slice_get xs i ≡ Some x → i < length xs
got_below [] i x at = absurd cc
got_below (y ∷ xs) zero x at = omega arith
got_below (y ∷ xs) (suc i) x at = let more = got_below xs i x at in omega (arith, more)

-- there are as many images as entries
count_from : (n : ℕ) (es : List Entry) → length (modules_from n es) ≡ length es
count_from n [] = refl
count_from n (e ∷ es) = let more = count_from (n + 1) es in omega (arith, more)

pub modules_count : (es : List Entry) → length (modules_of es) ≡ length es
unfolding modules_of
modules_count es = count_from 0 es

-- a fact about all holds for the one at an index
pub all_got : {X : Type 0} (P : X → Type 0) (xs : List X) (j : ℕ) (x : X) → All P xs → slice_get xs j ≡ Some x → P x
all_got P [] j x all at = absurd cc
all_got P (y ∷ xs) zero x all at = subst P (same_Some y x at) (all 0 y (omega arith))
all_got P (y ∷ xs) (suc j) x all at = all_got P xs j x (λ k d lt. all (suc k) d (omega arith)) at

-- and one about pairs holds for two at different indices
pub pair_got : {X : Type 0} (R : X → X → Type 0) (xs : List X) (i j : ℕ) (x y : X) → AllPairs R xs → i < j → slice_get xs i ≡ Some x → slice_get xs j ≡ Some y → R x y
pair_got R [] i j x y all lt at_i at_j = absurd cc
pair_got R (z ∷ xs) i zero x y all lt at_i at_j = absurd (omega arith)
pair_got R (z ∷ xs) zero (suc j) x y all lt at_i at_j =
    all_got (R x) xs j y (subst (λ (w : _). All (R w) xs) (same_Some z x at_i) (λ k d below. all 0 (suc k) d (omega arith) (omega arith))) at_j
pair_got R (z ∷ xs) (suc i) (suc j) x y all lt at_i at_j = pair_got R xs i j x y (λ i j d lt below. all (suc i) (suc j) d (omega arith) (omega arith)) (omega arith) at_i at_j

pub each_of_all : {X : Type 0} (P : X → Type 0) (xs : List X) → All P xs → Each P xs
each_of_all P [] all = tt
each_of_all P (x ∷ xs) all = (all 0 x (omega arith), each_of_all P xs (λ k d lt. all (suc k) d (omega arith)))

pub pairs_of_all : {X : Type 0} (R : X → X → Type 0) (xs : List X) → AllPairs R xs → EachPair R xs
pairs_of_all R [] all = tt
pairs_of_all R (x ∷ xs) all =
    (each_of_all (R x) xs (λ k d lt. all 0 (suc k) d (omega arith) (omega arith)), pairs_of_all R xs (λ i j d lt below. all (suc i) (suc j) d (omega arith) (omega arith)))
