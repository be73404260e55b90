-- A path in which a place is looked up, or to which one is added.
use Rattle.std.proofs.Common.{◌≡◌, ◌≢◌, ◌∙◌, ◌++◌, ◌∷◌, [], ℕ, List, None, Some, length, sym, ap, subst, inl, inr}
use Rattle.std.specs.Prelude.{slice_get}
use Rattle.std.specs.Map.{lookup}
use Rattle.std.specs.BTreeMap.{insert_entry, is_at}
use Rattle.pe_set.specs.StandView.{Stand, stand_view}
use Rattle.pe_set.specs.PathView.{AreApart, IsIndexed}
use Rattle.pe_set.specs.declared.standing.Standing.{Standing}
use Rattle.pe_set.proofs.Standings.{compare, found_place, lacks_place, from_inserted, kept_inserted, has_inserted}
use Rattle.pe_set.proofs.Pushed.{of_pushed, in_pushed, last_pushed}

module _ (places : List Stand) (hops : List (Standing × ℕ)) (path : IsIndexed places hops) (at : Standing) where
  -- what is found is the index of the place
  pub index_of_place : (first : ℕ) → lookup (is_at (compare at)) hops ≡ Some first → slice_get places first ≡ Some (stand_view at)
  index_of_place first is =
      let found = found_place at hops first is in
      ap (slice_get places) (sym found.4) ∙ path.right found.0 found.1 found.2 ∙ ap (λ (p : Stand). Some p) (sym found.3)

  module _ (none : lookup (is_at (compare at)) hops ≡ None) where
    pub new_place : (i : ℕ) → slice_get places i ≢ Some (stand_view at)
    new_place i is =
        let known = path.all i (stand_view at) is in
        lacks_place at hops none known.0 known.1 known.2 known.3

    abbrev longer : List Stand
    longer = places ++ stand_view at ∷ []

    apart_longer : AreApart longer
    apart_longer i j p is_i is_j = elim (of_pushed places (stand_view at) p i is_i) [
      | inl early ↦ elim (of_pushed places (stand_view at) p j is_j) [
        | inl early' ↦ path.apart i j p early.1 early'.1
        | inr last' ↦ absurd (new_place i (early.1 ∙ ap (λ (p : Stand). Some p) last'.1))
      ]
      | inr last ↦ elim (of_pushed places (stand_view at) p j is_j) [
        | inl early' ↦ absurd (new_place j (early'.1 ∙ ap (λ (p : Stand). Some p) last.1))
        | inr last' ↦ last.0 ∙ sym last'.0
      ]
    ]

    right_longer : (i : ℕ) (known : Standing × ℕ) → slice_get (insert_entry compare hops at (length places)) i ≡ Some known → slice_get longer known.1 ≡ Some (stand_view known.0)
    right_longer i known is = elim (from_inserted at (length places) hops i known is) [
      | inl old ↦ in_pushed places (stand_view at) (stand_view known.0) known.1 (path.right old.0 known old.1)
      | inr new ↦ ap (slice_get longer) new.1 ∙ last_pushed places (stand_view at) ∙ ap (λ (p : Stand). Some p) (sym new.0)
    ]

    abbrev Has : Stand → Type 0
    Has p = (j : ℕ) × (known : Standing × ℕ) × (slice_get (insert_entry compare hops at (length places)) j ≡ Some known) × (stand_view known.0 ≡ p)

    all_longer : (i : ℕ) (p : Stand) → slice_get longer i ≡ Some p → Has p
    all_longer i p is = elim (of_pushed places (stand_view at) p i is) [
      | inl early ↦
          (let known = path.all i p early.1 in
          let kept = kept_inserted at (length places) hops known.0 known.1 known.2 (λ same. new_place i (early.1 ∙ ap (λ (p : Stand). Some p) (sym known.3 ∙ same))) in
          (kept.0, known.1, kept.1, known.3))
      | inr last ↦ subst Has (sym last.1) (has_inserted at (length places) hops)
    ]

    pub path_longer : IsIndexed longer (insert_entry compare hops at (length places))
    path_longer = record { apart = apart_longer; right = right_longer; all = all_longer }
