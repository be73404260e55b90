-- The remembered searches: what is found, and what is added.
use Rattle.std.proofs.Common.{◌≡◌, ◌<◌, ◌∙◌, ℕ, suc, List, true, cond, Option, None, Some, refl, sym, ap, inl, inr}
use Rattle.std.specs.Prelude.{IfSome, option_map}
use Rattle.std.specs.Ordering.{nat_cmp, ordering_then, is_eq, MatchOrdering}
use Rattle.std.specs.declared.cmp.Ordering.{Ordering}
use Rattle.std.specs.declared.cmp.Ordering.TheVariants.{Less, Equal, Greater}
use Rattle.std.specs.BTreeMap.{BTreeMap, Updates, get}
use Rattle.std.proofs.lemmas.Bool.{cases_Bool}
use Rattle.std.proofs.lemmas.Cmp.{ranked}
use Rattle.std.proofs.lemmas.Option.{same_Some}
use Rattle.pe_layout.specs.Image.{LaidOut}
use Rattle.pe_tables.specs.Key.{Key, Name}
use Rattle.pe_set.specs.Set.{Module, named}
use Rattle.pe_set.specs.Search.{resolve, resolve_in, ended, cycle_at, steps, from_image, pairs_of}
use Rattle.pe_set.specs.RememberedView.{text_at, query_cmp, StandsFor}
use Rattle.pe_set.specs.declared.search.Resolution.{Resolution}

-- a search depends only on which image the name names
pub resolve_named : (s : List Module) (a b : List ℕ) (key : Key) → named s a ≡ named s b → resolve s a key ≡ resolve s b key
unfolding resolve
resolve_named s a b key same =
    ap (λ (o : Option ℕ). ended (cycle_at (pairs_of s) s (steps s (suc (pairs_of s)) (option_map (λ i. (i, key)) o))) (from_image s (resolve_in (pairs_of s) s) key o)) same

same_number : (x y : ℕ) → is_eq (nat_cmp x y) ≡ true → x ≡ y
same_number x y = by (nat_cmp x y) (ranked x y (nat_cmp x y) refl)
  where
    by : (o : Ordering) → MatchOrdering o (x < y) (x ≡ y) (y < x) → is_eq o ≡ true → x ≡ y
    by Less m e = absurd cc
    by Equal m e = m
    by Greater m e = absurd cc

then_parts : (x y : Ordering) → is_eq (ordering_then x y) ≡ true → (is_eq x ≡ true) × (is_eq y ≡ true)
then_parts Less y e = absurd cc
then_parts Equal y e = (refl, e)
then_parts Greater y e = absurd cc

pub same_query : (p q : ℕ × ℕ) → is_eq (query_cmp p q) ≡ true → (p.0 ≡ q.0) × (p.1 ≡ q.1)
same_query p q e = let parts = then_parts (nat_cmp p.0 q.0) (nat_cmp p.1 q.1) e in (same_number p.0 q.0 parts.0, same_number p.1 q.1 parts.1)

module _ (s : List Module) (image : LaidOut) where
  abbrev AreKnown : BTreeMap (ℕ × ℕ) Resolution → Type 0
  AreKnown ends = (query : ℕ × ℕ) (end : Resolution) → get query_cmp ends query ≡ Some end → (name : List ℕ) → named s name ≡ Some query.0 → resolve s name (Name (text_at image query.1)) ≡ end

  pub found : (ends : BTreeMap (ℕ × ℕ) Resolution) (query : ℕ × ℕ) (name : List ℕ) (key : Key) → AreKnown ends → StandsFor s image (Some query) name key
      → (o : Option Resolution) → get query_cmp ends query ≡ o → IfSome o (λ end. resolve s name key ≡ end)
  found ends query name key known stands None is = tt
  found ends query name key known stands (Some end) is = ap (resolve s name) stands.1 ∙ known query end is name stands.0

  pub kept : (old new : BTreeMap (ℕ × ℕ) Resolution) (query : ℕ × ℕ) (end : Resolution) (name : List ℕ) (key : Key) → AreKnown old → StandsFor s image (Some query) name key → resolve s name key ≡ end
      → Updates query_cmp old new query (Some end) → AreKnown new
  kept old new query end name key known stands is updates = λ q e got other at.
      let after : cond (is_eq (query_cmp query q)) (Some end) (get query_cmp old q) ≡ Some e = sym (updates.0 q) ∙ got in
      elim (cases_Bool (is_eq (query_cmp query q))) [
        | inl same ↦
            (let parts = same_query query q same in
            let its : Some end ≡ Some e = rw same at after in
            let there : named s other ≡ named s name = at ∙ ap (λ (n : ℕ). Some n) (sym parts.0) ∙ sym stands.0 in
            ap (λ (n : ℕ). resolve s other (Name (text_at image n))) (sym parts.1)
            ∙ resolve_named s other name (Name (text_at image query.1)) there
            ∙ ap (resolve s name) (sym stands.1) ∙ is ∙ same_Some end e its)
        | inr apart ↦ (let its : get query_cmp old q ≡ Some e = rw apart at after in known q e its other at)
      ]
