-- Maps by where a search is.
use Rattle.std.proofs.Common.{◌≡◌, ◌≢◌, ◌∙◌, ◌⊎◌, ℕ, zero, suc, List, [], ◌∷◌, None, Some, refl, sym, ap, subst, inl, inr}
use Rattle.std.specs.Prelude.{slice_get}
use Rattle.std.specs.Cmp.{Equal-is}
use Rattle.std.specs.Cmp.Lexicographic.{slice_cmp}
use Rattle.std.specs.Map.{lookup}
use Rattle.std.specs.BTreeMap.{insert_entry, is_at}
use Rattle.std.specs.Ordering.{match_ordering, ordering_then, nat_cmp, is_eq}
use Rattle.std.specs.declared.cmp.Ordering.{Ordering}
use Rattle.std.specs.declared.cmp.Ordering.TheVariants.{Less, Equal, Greater}
use Rattle.std.proofs.lemmas.Cmp.{tied_itself}
use Rattle.std.proofs.lemmas.Map.Entries.{place_from_lookup}
use Rattle.std.proofs.lemmas.Map.Lookups.{exact_unsigned, exact_bytes, exact_pairs}
use Rattle.std.proofs.lemmas.Option.{same_Some}
use Rattle.pe_set.specs.StandView.{Stand, stand_view}
use Rattle.pe_set.specs.declared.standing.Standing.{Standing}
use Rattle.pe_set.specs.contracts.standing.StandingOrd.TheImpl.{cmp-value}
use Rattle.pe_set.specs.contracts.standing.StandingOrd.TheImpl.Laws.{total-law}

abbrev pub compare : Standing → Standing → Ordering
compare a b = cmp-value.it a b

-- places are compared by image, number, the length of the name, and the name
abbrev by_view : Stand → Stand → Ordering
by_view p q = ordering_then (nat_cmp p.0 q.0) (ordering_then (nat_cmp p.1 q.1) (ordering_then (nat_cmp p.2 q.2) (slice_cmp nat_cmp p.3 q.3)))

compare_is : (a b : Standing) → compare a b ≡ by_view (stand_view a) (stand_view b)
compare_is a b = refl

abbrev nested : Standing → ℕ × (ℕ × (ℕ × List ℕ))
nested at = (at.image, (at.number, (at.len, at.name.now)))

abbrev by_name : ℕ × List ℕ → ℕ × List ℕ → Ordering
by_name x y = ordering_then (nat_cmp x.0 y.0) (slice_cmp nat_cmp x.1 y.1)

abbrev by_key : ℕ × (ℕ × List ℕ) → ℕ × (ℕ × List ℕ) → Ordering
by_key x y = ordering_then (nat_cmp x.0 y.0) (by_name x.1 y.1)

pub one_place : (a b : Standing) → compare a b ≡ Equal → stand_view a ≡ stand_view b
one_place a b is =
    let exact = exact_pairs nat_cmp by_key exact_unsigned (exact_pairs nat_cmp by_name exact_unsigned (exact_pairs nat_cmp (slice_cmp nat_cmp) exact_unsigned exact_bytes)) in
    let same : nested a ≡ nested b = exact (nested a) (nested b) (sym (compare_is a b) ∙ is) in
    ap (λ (t : ℕ × (ℕ × (ℕ × List ℕ))). (t.0, t.1.0, t.1.1.0, t.1.1.1)) same

pub tied_place : (a b : Standing) → stand_view a ≡ stand_view b → compare a b ≡ Equal
tied_place a b same = compare_is a b ∙ ap (by_view (stand_view a)) (sym same) ∙ sym (compare_is a a) ∙ tied_itself total-law a

module _ {X : Type 0} (at : Standing) where
  -- an entry that is found has this place
  pub found_place : (entries : List (Standing × X)) (x : X) → lookup (is_at (compare at)) entries ≡ Some x
      → (i : ℕ) × (known : Standing × X) × (slice_get entries i ≡ Some known) × (stand_view at ≡ stand_view known.0) × (known.1 ≡ x)
  found_place entries x is =
      let place = place_from_lookup (is_at (compare at)) entries x is in
      (place.0, (place.1, x), place.2, one_place at place.1 ((Equal-is (compare at place.1)).0 place.3), refl)

  lacks_step : (known : Standing × X) (entries : List (Standing × X)) (o : Ordering) → compare at known.0 ≡ o → lookup (is_at (compare at)) (known ∷ entries) ≡ None
      → (stand_view known.0 ≢ stand_view at) × (lookup (is_at (compare at)) entries ≡ None)
  lacks_step known entries Less is none = ((λ same. let tied = tied_place at known.0 (sym same) in absurd cc), (let test = ap is_eq is in rw test at none))
  lacks_step known entries Equal is none = let test = ap is_eq is in absurd cc
  lacks_step known entries Greater is none = ((λ same. let tied = tied_place at known.0 (sym same) in absurd cc), (let test = ap is_eq is in rw test at none))

  -- if none is found, no entry has this place
  pub lacks_place : (entries : List (Standing × X)) → lookup (is_at (compare at)) entries ≡ None → (i : ℕ) (known : Standing × X) → slice_get entries i ≡ Some known → stand_view known.0 ≢ stand_view at
  lacks_place [] none i known is = absurd cc
  lacks_place (x ∷ entries) none zero known is = let first = same_Some x known is in subst (λ (e : Standing × X). stand_view e.0 ≢ stand_view at) first (lacks_step x entries (compare at x.0) refl none).0
  lacks_place (x ∷ entries) none (suc i) known is = lacks_place entries (lacks_step x entries (compare at x.0) refl none).1 i known is

  module _ (value : X) where
    abbrev New : Standing × X → Type 0
    New known = (stand_view known.0 ≡ stand_view at) × (known.1 ≡ value)

    abbrev Old : List (Standing × X) → Standing × X → Type 0
    Old entries known = (i : ℕ) × (slice_get entries i ≡ Some known)

    old_later : (x known : Standing × X) (entries : List (Standing × X)) → Old entries known ⊎ New known → Old (x ∷ entries) known ⊎ New known
    old_later x known entries (inl old) = inl (suc old.0, old.1)
    old_later x known entries (inr new) = inr new

    from_step : (x : Standing × X) (entries rest : List (Standing × X)) (o : Ordering) → compare at x.0 ≡ o → ((i : ℕ) (known : Standing × X) → slice_get rest i ≡ Some known → Old entries known ⊎ New known)
        → (i : ℕ) (known : Standing × X) → slice_get (match_ordering o ((at, value) ∷ x ∷ entries) ((x.0, value) ∷ entries) (x ∷ rest)) i ≡ Some known → Old (x ∷ entries) known ⊎ New known
    from_step x entries rest Less is later zero known got = let first = same_Some (at, value) known got in inr (subst New first (refl, refl))
    from_step x entries rest Less is later (suc i) known got = inl (i, got)
    from_step x entries rest Equal is later zero known got = let first = same_Some (x.0, value) known got in inr (subst New first (sym (one_place at x.0 is), refl))
    from_step x entries rest Equal is later (suc i) known got = inl (suc i, got)
    from_step x entries rest Greater is later zero known got = inl (0, got)
    from_step x entries rest Greater is later (suc i) known got = old_later x known entries (later i known got)

    -- an entry after one was added is an old one or the new one
    pub from_inserted : (entries : List (Standing × X)) (i : ℕ) (known : Standing × X) → slice_get (insert_entry compare entries at value) i ≡ Some known → Old entries known ⊎ New known
    from_inserted [] zero known got = let first = same_Some (at, value) known got in inr (subst New first (refl, refl))
    from_inserted [] (suc i) known got = absurd cc
    from_inserted (x ∷ entries) i known got = from_step x entries (insert_entry compare entries at value) (compare at x.0) refl (from_inserted entries) i known got

    kept_step : (x : Standing × X) (entries rest : List (Standing × X)) (o : Ordering) → compare at x.0 ≡ o → ((i : ℕ) (known : Standing × X) → slice_get entries i ≡ Some known → stand_view known.0 ≢ stand_view at → Old rest known)
        → (i : ℕ) (known : Standing × X) → slice_get (x ∷ entries) i ≡ Some known → stand_view known.0 ≢ stand_view at → Old (match_ordering o ((at, value) ∷ x ∷ entries) ((x.0, value) ∷ entries) (x ∷ rest)) known
    kept_step x entries rest Less is later i known got other = (suc i, got)
    kept_step x entries rest Equal is later zero known got other =
        let first = same_Some x known got in
        absurd (other (sym (one_place at x.0 is ∙ ap (λ (e : Standing × X). stand_view e.0) first)))
    kept_step x entries rest Equal is later (suc i) known got other = (suc i, got)
    kept_step x entries rest Greater is later zero known got other = (0, got)
    kept_step x entries rest Greater is later (suc i) known got other = let kept = later i known got other in (suc kept.0, kept.1)

    -- the entries of other places remain
    pub kept_inserted : (entries : List (Standing × X)) (i : ℕ) (known : Standing × X) → slice_get entries i ≡ Some known → stand_view known.0 ≢ stand_view at → Old (insert_entry compare entries at value) known
    kept_inserted [] i known got other = absurd cc
    kept_inserted (x ∷ entries) i known got other = kept_step x entries (insert_entry compare entries at value) (compare at x.0) refl (kept_inserted entries) i known got other

    abbrev HasNew : List (Standing × X) → Type 0
    HasNew entries = (i : ℕ) × (known : Standing × X) × (slice_get entries i ≡ Some known) × (stand_view known.0 ≡ stand_view at)

    new_step : (x : Standing × X) (entries rest : List (Standing × X)) (o : Ordering) → compare at x.0 ≡ o → HasNew rest → HasNew (match_ordering o ((at, value) ∷ x ∷ entries) ((x.0, value) ∷ entries) (x ∷ rest))
    new_step x entries rest Less is later = (0, (at, value), refl, refl)
    new_step x entries rest Equal is later = (0, (x.0, value), refl, sym (one_place at x.0 is))
    new_step x entries rest Greater is later = (suc later.0, later.1, later.2, later.3)

    -- and the new one is there
    pub has_inserted : (entries : List (Standing × X)) → HasNew (insert_entry compare entries at value)
    has_inserted [] = (0, (at, value), refl, refl)
    has_inserted (x ∷ entries) = new_step x entries (insert_entry compare entries at value) (compare at x.0) refl (has_inserted entries)
