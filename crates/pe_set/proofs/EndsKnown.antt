-- The remembered ends of searches: what is found, and what is added.
use Rattle.std.proofs.Common.{◌≡◌, ◌∙◌, ℕ, List, Option, None, Some, sym, subst, inl, inr}
use Rattle.std.specs.Prelude.{slice_get, IfSome}
use Rattle.std.specs.Map.{lookup}
use Rattle.std.specs.BTreeMap.{insert_entry, is_at}
use Rattle.pe_tables.specs.Key.{Key}
use Rattle.pe_set.specs.Set.{Module}
use Rattle.pe_set.specs.SearchEnds.{EndsFrom}
use Rattle.pe_set.specs.StandView.{stand_view, stand_of}
use Rattle.pe_set.specs.EndsView.{IsEnd}
use Rattle.pe_set.specs.declared.search.Resolution.{Resolution}
use Rattle.pe_set.specs.declared.standing.Standing.{Standing}
use Rattle.pe_set.proofs.Standings.{compare, found_place, from_inserted}
use Rattle.pe_set.proofs.Walking.{one_stand}

abbrev AreKnown : List Module → List (Standing × Resolution) → Type 0
AreKnown s entries = (i : ℕ) (known : Standing × Resolution) → slice_get entries i ≡ Some known → IsEnd s known

module _ (s : List Module) (entries : List (Standing × Resolution)) (at : Standing) (p : ℕ × Key) where
  pub known_end : AreKnown s entries → stand_view at ≡ stand_of p → (found : Option Resolution) → lookup (is_at (compare at)) entries ≡ found → IfSome found (λ end. EndsFrom s end p)
  known_end known here None is = tt
  known_end known here (Some end) is =
      let found = found_place at entries end is in
      subst (λ (end : Resolution). EndsFrom s end p) found.4 (known found.0 found.1 found.2 p (sym found.3 ∙ here))

  module _ (end : Resolution) where
    pub kept_end : AreKnown s entries → stand_view at ≡ stand_of p → EndsFrom s end p → AreKnown s (insert_entry compare entries at end)
    kept_end known here ends i other is q there = elim (from_inserted at end entries i other is) [
      | inl old ↦ known old.0 other old.1 q there
      | inr new ↦ subst (λ (r : Resolution). EndsFrom s r q) (sym new.1) (subst (EndsFrom s end) (one_stand p q (sym here ∙ sym new.0 ∙ there)) ends)
    ]
