-- Flags, place by place.
use Rattle.std.proofs.Common.{◌≡◌, ◌∙◌, ◌+◌, ℕ, List, [], ◌∷◌, ◌++◌, refl, sym, ap, append-nil, arith}
use Rattle.std.specs.Prelude.{flat_map, Option, None, Some, is_none, option_map}
use Rattle.std.specs.List.{range_with_len}
use Rattle.std.proofs.lemmas.Grind.{flat_map-append}
use Rattle.std.proofs.lemmas.List.{map-id}
use Rattle.std.proofs.lemmas.List.FromFn.{map-range_with_len_more}
use Rattle.pe_head.specs.Names.{Names}
use Rattle.pe_json.specs.Listed.{is_nil}
use Rattle.pe_json.specs.Flags.{quoted_if, flag_at, flag_items}

numbers_more : (n : ℕ) → range_with_len 0 (n + 1) ≡ range_with_len 0 n ++ n ∷ []
numbers_more n = sym (map-id (range_with_len 0 (n + 1))) ∙ map-range_with_len_more (λ j. j) 0 n n (omega arith) ∙ ap (λ (xs : List ℕ). xs ++ n ∷ []) (map-id (range_with_len 0 n))

pub items_next : (item : ℕ → List (List ℕ)) (k : ℕ) → flat_map item (range_with_len 0 (k + 1)) ≡ flat_map item (range_with_len 0 k) ++ item k
items_next item k = ap (flat_map item) (numbers_more k) ∙ flat_map-append item (range_with_len 0 k) (k ∷ []) ∙ ap (λ (xs : List (List ℕ)). flat_map item (range_with_len 0 k) ++ xs) (append-nil (item k))

-- one more place
pub flags_next : (names : Names) (flags k : ℕ) → flag_items names flags (k + 1) ≡ flag_items names flags k ++ quoted_if (flag_at names flags k)
flags_next names flags k = items_next (λ place. quoted_if (flag_at names flags place)) k

pub none_nil : {X : Type 0} (f : X → List ℕ) (name : Option X) → is_none name ≡ is_nil (quoted_if (option_map f name))
none_nil f None = refl
none_nil f (Some x) = refl
